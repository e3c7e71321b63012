use Rattle.std.proofs.Common.{◌∙◌, arith}
use Rattle.candidates.proofs.Pointwise.{all_filled}
use Rattle.candidates.proofs.closest.require_close_candidate.Goals as goal

pub returns : goal.returns
returns c = let s = c.args.sheet.now in
    c.close_enough.ensures ∙ all_filled s.bytes.now s.counts c.loop-index.index c.loop-index.invariant c.loop-index-test.false (let h = c.if-sheet-eq0.false in omega arith)
