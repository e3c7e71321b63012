use Rattle.candidates.proofs.Pointwise.{SoFar}
use Rattle.candidates.proofs.closest.close_enough.Given as goal

abbrev pub invariant-loop-i : goal.invariant-loop-i
invariant-loop-i l = SoFar l.sheet.bytes.now l.sheet.counts l.i l.index l.least
