-- "Points" and "Legs": decode_line and decode_point_along_line up to the ends, with refusals 7 to 11.
use Rattle.std.specs.Prelude.{ℕ, ◌+◌, ◌-◌, Bool, cond, List, [], ◌∷◌, ◌++◌, map, eqb, ltb, length, Float}
use Rattle.std.proofs.Math.Option.{Option, none, some}
use Rattle.model.specs.declared.Road.{Road}
use Rattle.model.specs.Numbers.{◌⊕◌, ◌<ᶠ◌, ◌≤ᶠ◌, f0}
use Rattle.model.specs.Lists.{last, maybe, fold}
use Rattle.model.specs.Layout.{point_along_line}
use Rattle.model.specs.View.{penalty, Leg, View}
use Rattle.model.specs.Candidates.{Candidate, find_candidates, closest_point}
use Rattle.model.specs.Search.{Query, Search, found}
use Rattle.model.specs.Legs.{EdgeCoverage, PathResult, LegEnd, best, no_path, heap_full, MiddleSearch, find_best_path}

-- ---- the searches of a leg

unfoldable pub query_of : View → Leg → ℕ → Float → Query
query_of v leg goal bound = record { nodes = v.nodes; leaving = leg.leaving; penalty = penalty leg.limits.constraints; heuristic = v.to_goal goal; goal = goal; max_cost = bound }

-- start equal to goal costs 0 without roads, and makes no search
unfoldable pub middle_search : View → Search → Leg → MiddleSearch
middle_search v search leg start goal bound = cond (eqb start goal) (found f0 []) (search (query_of v leg goal bound) start)

-- ---- what the legs leave

-- SegmentInfo: a leg's length, its DNP and its offsets
pub record SegmentInfo : Type 0 where
  pub length_m : Float
  pub expected_m : Float
  pub start_offset_m : Float
  pub end_offset_m : Float

unfoldable pub segment_of : Leg → PathResult → SegmentInfo
segment_of leg r = record { length_m = r.total_length; expected_m = leg.limits.dnp; start_offset_m = r.start_offset_m; end_offset_m = r.end_offset_m }

abbrev pub no_segment : SegmentInfo
no_segment = record { length_m = f0; expected_m = f0; start_offset_m = f0; end_offset_m = f0 }

-- The roads written so far, the sum of the legs, the coverages, the first and the last segment.
pub record FullPath : Type 0 where
  pub roads : List Road
  pub total_length : Float
  pub coverages : List EdgeCoverage
  pub first_segment : SegmentInfo
  pub last_segment : SegmentInfo

abbrev pub no_path_yet : FullPath
no_path_yet = record { roads = []; total_length = f0; coverages = []; first_segment = no_segment; last_segment = no_segment }

abbrev pub roads_of : PathResult → List Road
roads_of r = map (λ (c : EdgeCoverage). c.road) r.coverages

unfoldable pub same_number : Road → Road → Bool
same_number a b = eqb a.number b.number

-- a leg's roads behind those already there; a first road equal to the last one written is skipped
unfoldable pub append : List Road → List Road → List Road
append path [] = path
append path (r ∷ rs) = path ++ maybe (last path) (r ∷ rs) (λ x. cond (same_number x r) rs (r ∷ rs))

-- coverage summed per road, in order of first traversal
unfoldable pub cover : List EdgeCoverage → EdgeCoverage → List EdgeCoverage
cover [] c = c ∷ []
cover (x ∷ xs) c = cond (same_number x.road c.road) (record { road = x.road; coverage_m = x.coverage_m ⊕ c.coverage_m } ∷ xs) (x ∷ cover xs c)

-- after leg i of a line
unfoldable pub extended : ℕ → FullPath → Leg → PathResult → FullPath
extended i k leg r = record {
  roads = append k.roads (roads_of r);
  total_length = k.total_length ⊕ r.total_length;
  coverages = fold cover k.coverages r.coverages;
  first_segment = cond (eqb i 0) (segment_of leg r) k.first_segment;
  last_segment = segment_of leg r;
}

-- for a point along line the one leg's coverage is not summed
unfoldable pub path_of_leg : Leg → PathResult → FullPath
path_of_leg leg r = record { roads = roads_of r; total_length = r.total_length; coverages = r.coverages; first_segment = segment_of leg r; last_segment = segment_of leg r }

-- primary_edge: the greatest coverage, the first if equal
unfoldable pub greater : EdgeCoverage → EdgeCoverage → EdgeCoverage
greater b c = cond (b.coverage_m <ᶠ c.coverage_m) c b

unfoldable pub primary_edge : List EdgeCoverage → Option EdgeCoverage
primary_edge [] = none
primary_edge (x ∷ xs) = some (fold greater x xs)

-- ---- the answer before the ends

-- A refusal with its places A and B, or the path and its primary road.
pub data Outcome : Type 0 where
  refused : ℕ → ℕ → ℕ → Outcome
  matched : FullPath → EdgeCoverage → Outcome

-- no coverage is refusal 10 from 0 to P - 1
unfoldable pub with_primary : ℕ → FullPath → Outcome
with_primary points k = maybe (primary_edge k.coverages) (refused 10 0 (points - 1)) (matched k)

-- after leg i: on with its path, or refusal 10 or 11
unfoldable pub after_leg : ℕ → LegEnd → (PathResult → Outcome) → Outcome
after_leg i (best r) next = next r
after_leg i no_path next = refused 10 i (i + 1)
after_leg i heap_full next = refused 11 i 0

-- decode_line from leg i on: from the candidates xs to the first of the rest
unfoldable pub decode_line : View → Search → ℕ → FullPath → List Candidate → List Leg → List (List Candidate) → Outcome
decode_line v search i k xs [] rest = with_primary (length v.points) k
decode_line v search i k xs (leg ∷ legs) [] = with_primary (length v.points) k
decode_line v search i k xs (leg ∷ legs) (ys ∷ rest) =
    after_leg i (find_best_path leg.limits (middle_search v search leg) xs ys) (λ r. decode_line v search (i + 1) (extended i k leg r) ys legs rest)

-- decode_point_along_line
unfoldable pub decode_point_along_line : View → Search → List Candidate → List Leg → List (List Candidate) → Outcome
decode_point_along_line v search xs [] rest = with_primary 2 no_path_yet
decode_point_along_line v search xs (leg ∷ legs) [] = with_primary 2 no_path_yet
decode_point_along_line v search xs (leg ∷ legs) (ys ∷ rest) =
    after_leg 0 (find_best_path leg.limits (middle_search v search leg) xs ys) (λ r. with_primary 2 (path_of_leg leg r))

unfoldable pub decode_legs : View → Search → List (List Candidate) → Outcome
decode_legs v search [] = refused 8 0 0
decode_legs v search (xs ∷ rest) = cond (eqb v.kind point_along_line) (decode_point_along_line v search xs v.legs rest) (decode_line v search 0 no_path_yet xs v.legs rest)

-- the first point without a candidate
unfoldable pub first_empty : ℕ → List (List Candidate) → Option ℕ
first_empty i [] = none
first_empty i ([] ∷ rest) = some i
first_empty i ((x ∷ xs) ∷ rest) = first_empty (i + 1) rest

-- require_close_candidate: the smallest distance above the greatest candidate distance is refusal 9 with that point
unfoldable pub require_close_candidate : View → Search → List (List Candidate) → Outcome
require_close_candidate v search cs = cond ((closest_point cs).distance ≤ᶠ v.settings.max_candidate_distance_m) (decode_legs v search cs) (refused 9 (closest_point cs).point 0)

unfoldable pub decode_points : View → Search → List (List Candidate) → Outcome
decode_points v search [] = refused 8 0 0
decode_points v search (xs ∷ rest) = maybe (first_empty 0 (xs ∷ rest)) (require_close_candidate v search (xs ∷ rest)) (λ i. refused 9 i 0)

-- rows 7 to 11 of the table, or what the legs leave
unfoldable pub outcome : View → Search → Outcome
outcome v search = cond (ltb point_along_line v.kind) (refused 7 v.kind 0) (decode_points v search (map (find_candidates v.settings) v.points))
