use Rattle.std.proofs.Common.{◌≡◌}
use Rattle.model.specs.Table.{every}
use Rattle.model.specs.Judge.{start_rises}
use Rattle.judge.proofs.lists.starts_rise.Given as goal

abbrev pub invariant-loop-i : goal.invariant-loop-i
invariant-loop-i l = l.rises ≡ every (start_rises l.sheet.bytes.now l.sheet.counts) l.i 0
