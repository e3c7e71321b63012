use Rattle.std.proofs.Common.{ℕ, ◌^◌, ◌<◌, ◌≤◌, [], w64, get_or}
use Rattle.std.specs.Int.{from_le_bytes}
use Rattle.model.specs.Table.{most_f64}
use Rattle.ranges.proofs.measures.all_measured.Given as goal

abbrev pub invariant-loop-word : goal.invariant-loop-word
invariant-loop-word l = l.all < 2 ^ 63 → (j : ℕ) → j < l.word-index → from_le_bytes w64 (get_or l.words j []) ≤ most_f64
