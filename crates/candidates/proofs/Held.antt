-- The candidates that a list by value holds, one by one.
use Prim.Native.Nat.{ℕ, ◌<◌}
use mathlib.Core.Path.{◌≡◌}
use mathlib.Core.List.{List}
use lib.ListN.{length, get_or, length-map}
use Rattle.model.specs.Sheet.{Sheet}
use Rattle.model.proofs.Members.{get_d_map}
use Rattle.candidates.specs.declared.candidate.Candidate as code
use Rattle.candidates.specs.Found.{no_candidate, no_item, at_road, item_at, held}

module _ (t : Sheet) (xs : List code.Candidate) where
  pub held_long : length (held t xs) ≡ length xs
  unfolding held
  held_long = length-map xs (at_road t)

  pub held_at : (k : ℕ) → k < length xs → get_or (held t xs) k no_candidate ≡ at_road t (item_at xs k)
  unfolding held
  held_at k l = get_d_map (at_road t) xs k no_item no_candidate l
