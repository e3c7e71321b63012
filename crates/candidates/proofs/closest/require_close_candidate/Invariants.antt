use Rattle.candidates.proofs.Pointwise.{Filled}
use Rattle.candidates.proofs.closest.require_close_candidate.Given as goal

abbrev pub invariant-loop-index : goal.invariant-loop-index
invariant-loop-index l = Filled l.sheet.bytes.now l.sheet.counts l.index
