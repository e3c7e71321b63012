-- The candidates of a point of the parsed sheet, those of them that a leg tries, and the code's records of them.
use Rattle.std.specs.Prelude.{ℕ, ◌≤◌, ◌<◌, ◌≡◌, Bool, false, cond, List, [], map, length, take, get_or, T, Option, Some, None}
use Rattle.std.specs.Float.{nan}
use Rattle.std.specs.Float.Ieee.{le}
use Rattle.model.specs.declared.Counts.{Counts}
use Rattle.model.specs.declared.Road.{Road}
use Rattle.model.specs.declared.Settings.{Settings}
use Rattle.model.specs.Numbers.{f0, ◌<ᶠ◌}
use Rattle.model.specs.Sheet.{MeasuredPoint, Sheet, road_at}
use Rattle.model.specs.Layout.{most_measured}
use Rattle.model.specs.Lists.{In, sort, filter_map}
use Rattle.model.specs.View.{projection_of, projected_point}
use Rattle.model.specs.Candidates.{Candidate, candidate, passes, better, find_candidates}
use Rattle.model.specs.Legs.{most_tried}
use Rattle.bounds.specs.Amounts.{Amount}
use Rattle.candidates.specs.declared.candidate.Candidate as code

-- past the last point: a point without rows
abbrev pub no_point : MeasuredPoint
no_point = record { point = record { dnp = f0; bearing = 0; frc = 0; fow = 0; limit = 255 }; rows = [] }

abbrev pub point_at : Sheet → ℕ → MeasuredPoint
point_at t i = get_or t.points i no_point

-- those that pass, in the order of their rows
unfoldable pub kept_at : Sheet → ℕ → List Candidate
kept_at t i = filter_map (candidate t.settings (point_at t i).point) (map (projection_of t) (point_at t i).rows)

-- those that pass, in order
abbrev pub passing_at : Sheet → ℕ → List Candidate
passing_at t i = sort better (kept_at t i)

unfoldable pub candidates_at : Sheet → ℕ → List Candidate
candidates_at t i = find_candidates t.settings (projected_point t (point_at t i))

-- a candidate on a road of the sheet t with the counts c
pub record OnSheet (t : Sheet) (c : Counts) (x : Candidate) : Type 0 where
  pub number : x.road.number < c.e
  pub road : x.road ≡ road_at t x.road.number
  pub source : x.road.source < c.n
  pub target : x.road.target < c.n
  pub frc : x.road.frc ≤ 7
  pub fow : x.road.fow ≤ 7

-- ---- the code's candidate and the definition's: one has the road's number, the other its record

abbrev pub by_number : Candidate → code.Candidate
by_number x = record { edge_idx = x.road.number; distance_m = x.distance_m; bearing_diff = x.bearing_diff; frc_diff = x.frc_diff; fow_score = x.fow_score; score = x.score; projection_fraction = x.projection_fraction }

-- the candidate that it stands for, on the road r
abbrev pub on : Road → code.Candidate → Candidate
on r x = record { road = r; distance_m = x.distance_m; bearing_diff = x.bearing_diff; frc_diff = x.frc_diff; fow_score = x.fow_score; score = x.score; projection_fraction = x.projection_fraction }

-- what stands in an array past its end
abbrev pub no_candidate : Candidate
no_candidate = record {
  road = record { number = 0; id = 0; length_m = nan; source = 0; target = 0; frc = 0; fow = 0; access = false };
  distance_m = nan;
  bearing_diff = nan;
  frc_diff = 0;
  fow_score = nan;
  score = nan;
  projection_fraction = nan;
}

abbrev pub no_item : code.Candidate
no_item = by_number no_candidate

-- what stands in a place that is not used
abbrev pub nothing : code.Candidate
nothing = record { edge_idx = 0; distance_m = f0; bearing_diff = f0; frc_diff = 0; fow_score = f0; score = f0; projection_fraction = f0 }

abbrev pub item_at : List code.Candidate → ℕ → code.Candidate
item_at xs k = get_or xs k no_item

-- what the code makes of one, if it passes
abbrev pub if_passes : Settings → Candidate → Option code.Candidate
if_passes c x = cond (passes c x) (Some (by_number x)) None

-- no more than a point may have rows, with scores and distances that are amounts
pub record Measured (xs : List code.Candidate) : Type 0 where
  pub few : length xs ≤ most_measured
  pub amounts : (x : code.Candidate) → In x xs → Amount x.score × Amount x.distance_m

-- scores are amounts and never fall
pub record Rising (xs : List code.Candidate) : Type 0 where
  pub amounts : (k : ℕ) → k < length xs → Amount (item_at xs k).score
  pub rise : (j k : ℕ) → j < k → k < length xs → T (le (item_at xs j).score (item_at xs k).score)

-- a has the lower score
abbrev pub lower : code.Candidate → code.Candidate → Bool
lower a b = a.score <ᶠ b.score

-- ---- those that a leg tries

abbrev pub tried_at : Sheet → ℕ → List Candidate
tried_at t i = take most_tried (candidates_at t i)

-- ---- a list of them by value

-- the candidate that x stands for
abbrev pub at_road : Sheet → code.Candidate → Candidate
at_road t x = on (road_at t x.edge_idx) x

-- those that xs holds
unfoldable pub held : Sheet → List code.Candidate → List Candidate
held t xs = map (at_road t) xs

-- at most ten, on roads of the sheet, with scores that are amounts and never fall
pub record CandidatesReady (c : Counts) (xs : List code.Candidate) : Type 0 where
  pub few : length xs ≤ most_tried
  pub named : (k : ℕ) → k < length xs → (item_at xs k).edge_idx < c.e
  pub rising : Rising xs

-- xs holds those of point i that a leg tries
pub record CandidatesOf (t : Sheet) (c : Counts) (i : ℕ) (xs : List code.Candidate) : Type 0 where
  pub are : held t xs ≡ tried_at t i
  pub ready : CandidatesReady c xs
