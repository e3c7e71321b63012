use Rattle.std.proofs.Common.{ℕ, ◌+◌, ◌*◌, ◌<◌, Ok}
use Rattle.ranges.proofs.need.run.Given as goal

abbrev pub invariant-loop-i : goal.invariant-loop-i
invariant-loop-i g l = (j : ℕ) → j < l.i → goal.F-post g l.check (l.base + j * l.w) (Ok tt)
