use Rattle.std.proofs.Common.{ℕ, ◌+◌, ◌<◌, ◌≤◌}
use Rattle.judge.proofs.rows.rise.Given as goal

abbrev pub invariant-loop-i : goal.invariant-loop-i
invariant-loop-i g l = (j : ℕ) → j < l.i → l.from ≤ j → (a : ℕ) × (b : ℕ) × goal.F-post g l.number j a × goal.F-post g l.number (j + 1) b × (a < b)
