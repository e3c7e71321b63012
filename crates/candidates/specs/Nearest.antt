-- The nearest candidates of a point, as they are told by its rows.
use Rattle.std.specs.Prelude.{◌≡◌, true, List, length, Float}
use Rattle.std.specs.Float.Ieee.{eq}
use Rattle.model.specs.Numbers.{fmin, infinity}
use Rattle.model.specs.Lists.{fold}
use Rattle.bounds.specs.Amounts.{Amount}
use Rattle.candidates.specs.declared.closest.Seen.{Seen}
use Rattle.candidates.specs.declared.candidate.Candidate as code

-- equal amounts
pub record EqualAmounts (a b : Float) : Type 0 where
  pub left : Amount a
  pub right : Amount b
  pub equal : eq a b ≡ true

-- the least distance of a list
unfoldable pub least_of : List code.Candidate → Float
least_of xs = fold (λ d x. fmin d x.distance_m) infinity xs

-- how many they are, and that distance
abbrev pub seen_of : List code.Candidate → Seen
seen_of xs = record { passing = length xs; least = least_of xs }
