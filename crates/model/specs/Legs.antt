-- "One leg": try_same_edge_solution and find_best_path.
use Rattle.std.specs.Prelude.{ℕ, Bool, true, false, ◌&&◌, not, cond, List, [], ◌∷◌, ◌++◌, map, eqb, take, Float}
use Rattle.std.proofs.Math.Option.{Option, none, some}
use Rattle.model.specs.declared.Road.{Road}
use Rattle.model.specs.Candidates.{Candidate}
use Rattle.model.specs.declared.Limits.{Limits}
use Rattle.model.specs.Numbers.{◌⊕◌, ◌⊖◌, ◌⊗◌, ◌⊘◌, ◌<ᶠ◌, ◌≤ᶠ◌, fmax, fabs, f0, f1, f3, f5, f10, min_edge_contribution, greatest_float}
use Rattle.model.specs.Lists.{when, fold, sort}
use Rattle.model.specs.View.{permits}
use Rattle.model.specs.Search.{SearchEnd, found, none_found, full}

-- ---- paths and their scores

-- EdgeCoverage: a road with the metres that a path covers of it
pub record EdgeCoverage : Type 0 where
  pub road : Road
  pub coverage_m : Float

-- PathResult: its roads are those of the coverages, in travel order
pub record PathResult : Type 0 where
  pub coverages : List EdgeCoverage
  pub total_length : Float
  pub start_offset_m : Float
  pub end_offset_m : Float

pub record Scored : Type 0 where
  pub path : PathResult
  pub score : Float

-- A start and an end candidate with the sum of their scores.
pub record Pair : Type 0 where
  pub start : Candidate
  pub end : Candidate
  pub sum : Float

abbrev pub pair : Candidate → Candidate → Pair
pair a b = record { start = a; end = b; sum = a.score ⊕ b.score }

-- by number, never by id
abbrev pub same_road : Pair → Bool
same_road p = eqb p.start.road.number p.end.road.number

-- the candidates' scores, then the length penalty
unfoldable pub score_of : Limits → Pair → Float → Float
score_of b p total = p.sum ⊕ fabs (total ⊖ b.dnp) ⊘ fmax b.dnp f1

-- Best changes only on a strictly lower score.
unfoldable pub best_score : Option Scored → Float
best_score none = greatest_float
best_score (some s) = s.score

unfoldable pub improve : Option Scored → Option Scored → Option Scored
improve best none = best
improve best (some s) = cond (s.score <ᶠ best_score best) (some s) best

-- the first one counts whatever its score is
unfoldable pub first_or_better : Option Scored → Option Scored → Option Scored
first_or_better none s = s
first_or_better (some b) s = improve (some b) s

-- ---- both points on one road, the start before the end

-- an excellent match: both strictly nearer than 5 m
unfoldable pub excellent : Pair → Bool
excellent p = p.start.distance_m <ᶠ f5 && p.end.distance_m <ᶠ f5

-- it has no minimum, and three times the maximum
unfoldable pub effective_min : Limits → Pair → Float
effective_min b p = cond (excellent p) f0 b.min_distance

unfoldable pub effective_max : Limits → Pair → Float
effective_max b p = cond (excellent p) (b.max_valid_distance ⊗ f3) b.max_valid_distance

abbrev pub fraction_between : Pair → Float
fraction_between p = p.end.projection_fraction ⊖ p.start.projection_fraction

unfoldable pub same_edge_length : Pair → Float
same_edge_length p = p.start.road.length_m ⊗ fraction_between p

unfoldable pub fits_same_edge : Limits → Pair → Bool
fits_same_edge b p = not (fraction_between p ≤ᶠ f0) && not (same_edge_length p <ᶠ effective_min b p) && not (effective_max b p <ᶠ same_edge_length p)

abbrev pub start_offset : Candidate → Float
start_offset x = x.road.length_m ⊗ x.projection_fraction

abbrev pub end_offset : Candidate → Float
end_offset x = x.road.length_m ⊗ (f1 ⊖ x.projection_fraction)

unfoldable pub same_edge_path : Pair → PathResult
same_edge_path p = record {
  coverages = record { road = p.start.road; coverage_m = same_edge_length p } ∷ [];
  total_length = same_edge_length p;
  start_offset_m = start_offset p.start;
  end_offset_m = p.start.road.length_m ⊗ (f1 ⊖ p.end.projection_fraction);
}

unfoldable pub same_edge_scored : Limits → Pair → Option Scored
same_edge_scored b p = when (fits_same_edge b p) record { path = same_edge_path p; score = score_of b p (same_edge_length p) }

-- ---- the pairs of a leg: up to 10 × 10

-- how many candidates of a point a leg tries
abbrev pub most_tried : ℕ
most_tried = 10

unfoldable pub pairs : List Candidate → List Candidate → List Pair
pairs [] ys = []
pairs (x ∷ xs) ys = map (pair x) ys ++ pairs xs ys

abbrev pub leg_pairs : List Candidate → List Candidate → List Pair
leg_pairs xs ys = pairs (take most_tried xs) (take most_tried ys)

-- ---- try_same_edge_solution

-- both within 10 m (10 included) of one road that the leg may use
unfoldable pub close : Limits → Pair → Bool
close b p = p.start.distance_m ≤ᶠ f10 && p.end.distance_m ≤ᶠ f10 && same_road p && permits b.constraints p.start.road

unfoldable pub take_close : Limits → Option Scored → Pair → Option Scored
take_close b best p = cond (close b p) (first_or_better best (same_edge_scored b p)) best

unfoldable pub try_same_edge_solution : Limits → List Pair → Option Scored
try_same_edge_solution b ps = fold (take_close b) none ps

-- ---- a path over several roads

-- what the path covers of the start's road, and of the end's
abbrev pub start_part : Pair → Float
start_part p = end_offset p.start

abbrev pub end_part : Pair → Float
end_part p = start_offset p.end

unfoldable pub path_cost : Pair → Float → Float
path_cost p cost = start_part p ⊕ cost ⊕ end_part p

unfoldable pub fits_path : Limits → Float → Bool
fits_path b total = not (total ≤ᶠ f0) && not (total <ᶠ b.min_distance) && not (b.max_valid_distance <ᶠ total)

-- a terminal road stays when its part divided by the leg length is at least 0.03; a dropped one still counts in the length
unfoldable pub stays : Float → Float → Bool
stays part total = min_edge_contribution ≤ᶠ part ⊘ total

unfoldable pub terminal : Bool → Road → Float → List EdgeCoverage
terminal true r part = record { road = r; coverage_m = part } ∷ []
terminal false r part = []

unfoldable pub whole : Road → EdgeCoverage
whole r = record { road = r; coverage_m = r.length_m }

unfoldable pub path_over : Pair → Float → List Road → PathResult
path_over p total middle =
    let a = stays (start_part p) total in
    let b = stays (end_part p) total in
    record {
      coverages = terminal a p.start.road (start_part p) ++ map whole middle ++ terminal b p.end.road (end_part p);
      total_length = total;
      start_offset_m = cond a (start_offset p.start) f0;
      end_offset_m = cond b (end_offset p.end) f0;
    }

unfoldable pub scored_over : Limits → Pair → Float → List Road → Option Scored
scored_over b p cost middle =
    let total = path_cost p cost in
    when (fits_path b total) record { path = path_over p total middle; score = score_of b p total }

-- ---- one pair after the other, by summed score

-- What a leg finds.
pub data LegEnd : Type 0 where
  best : PathResult → LegEnd
  no_path : LegEnd
  heap_full : LegEnd

unfoldable pub leg_end : Option Scored → LegEnd
leg_end none = no_path
leg_end (some s) = best s.path

-- What is done for a pair: it is skipped, it has a path on one edge, or it needs a search within these metres.
pub data PairPlan : Type 0 where
  skip : PairPlan
  same_edge : Option Scored → PairPlan
  by_search : Float → PairPlan

unfoldable pub middle_max : Limits → Pair → Float
middle_max b p = b.max_search_distance ⊖ start_part p ⊖ end_part p

-- A pair whose roads the leg may not use is skipped, and so is one with a bound of 0 or less.
unfoldable pub pair_plan : Limits → Pair → PairPlan
pair_plan b p =
    cond (not (permits b.constraints p.start.road && permits b.constraints p.end.road)) skip
    (cond (same_road p) (same_edge (same_edge_scored b p))
    (cond (middle_max b p ≤ᶠ f0) skip (by_search (middle_max b p))))

-- The way from a node to a node within a bound.
abbrev pub MiddleSearch : Type 0
MiddleSearch = ℕ → ℕ → Float → SearchEnd

-- the roads between the end of the start's road and the start of the end's
unfoldable pub middle_of : MiddleSearch → Pair → PairPlan → SearchEnd
middle_of search p skip = none_found
middle_of search p (same_edge s) = none_found
middle_of search p (by_search bound) = search p.start.road.target p.end.road.source bound

pub data Turn : Type 0 where
  ends : LegEnd → Turn
  goes_on : Option Scored → Turn

-- a full heap ends the leg, even after a pair with a path
unfoldable pub after_search : Limits → Pair → Option Scored → SearchEnd → Turn
after_search b p so_far none_found = goes_on so_far
after_search b p so_far full = ends heap_full
after_search b p so_far (found cost middle) = goes_on (improve so_far (scored_over b p cost middle))

unfoldable pub after_pair : Limits → Pair → Option Scored → PairPlan → SearchEnd → Turn
after_pair b p so_far skip f = goes_on so_far
after_pair b p so_far (same_edge s) f = goes_on (improve so_far s)
after_pair b p so_far (by_search bound) f = after_search b p so_far f

unfoldable pub try_pair : Limits → MiddleSearch → Option Scored → Pair → Turn
try_pair b search so_far p =
    let a = pair_plan b p in
    after_pair b p so_far a (middle_of search p a)

-- The pairs end when the sum reaches the best score; else the pair is tried.
unfoldable pub end_or_try : Bool → Limits → MiddleSearch → Option Scored → Pair → Turn
end_or_try true b search so_far p = ends (leg_end so_far)
end_or_try false b search so_far p = try_pair b search so_far p

unfoldable pub next_pair : Turn → (Option Scored → LegEnd) → LegEnd
next_pair (ends e) next = e
next_pair (goes_on so_far) next = next so_far

unfoldable pub try_pairs : Limits → MiddleSearch → List Pair → Option Scored → LegEnd
try_pairs b search [] so_far = leg_end so_far
try_pairs b search (p ∷ ps) so_far = next_pair (end_or_try (best_score so_far ≤ᶠ p.sum) b search so_far p) (try_pairs b search ps)

abbrev pub by_sum : Pair → Pair → Bool
by_sum p q = p.sum <ᶠ q.sum

-- a solution on one road wins outright
unfoldable pub else_pairs : Limits → MiddleSearch → List Pair → Option Scored → LegEnd
else_pairs b search ps (some s) = best s.path
else_pairs b search ps none = try_pairs b search (sort by_sum ps) none

unfoldable pub find_best_path : Limits → MiddleSearch → List Candidate → List Candidate → LegEnd
find_best_path b search xs ys =
    let ps = leg_pairs xs ys in
    else_pairs b search ps (try_same_edge_solution b ps)
