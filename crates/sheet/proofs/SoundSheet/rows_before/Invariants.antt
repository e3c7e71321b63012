use Rattle.std.proofs.Common.{◌≡◌, ◌*◌, ◌≤◌}
use Rattle.model.specs.Judge.{rows_before}
use Rattle.sheet.proofs.SoundSheet.rows_before.Given as goal

abbrev pub invariant-loop-k : goal.invariant-loop-k
invariant-loop-k l = (l.sum ≡ rows_before l.self.bytes.now l.k) × (l.sum ≤ 64 * l.k)
