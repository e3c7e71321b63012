-- What a leg finds is a path on one road that fits, or one over the roads that a search found; so a law of these two is a law of the leg.
use mathlib.Core.Bool.{Bool, true, false, ◌&&◌, not}
use mathlib.Core.Option.{Option, none, some}
use mathlib.Core.List.Memᴰ
use mathlib.Core.List.{List, [], ◌∷◌}
use lib.Dec.{T}
use lib.Ieee.{Float}
use Rattle.model.specs.declared.Road.{Road}
use Rattle.model.specs.Candidates.{Candidate}
use Rattle.model.specs.declared.Limits.{Limits}
use Rattle.model.specs.Numbers.{◌<ᶠ◌, ◌≤ᶠ◌, f0}
use Rattle.model.specs.Lists.{In, when, sort}
use Rattle.model.specs.View.{permits}
use Rattle.model.specs.Search.{SearchEnd, found, none_found, full}
use Rattle.model.specs.Legs.{PathResult, Scored, Pair, same_road, score_of, best_score, improve, first_or_better, same_edge_length, fits_same_edge, same_edge_path, same_edge_scored, leg_pairs, close, take_close, try_same_edge_solution, path_cost, fits_path, path_over, scored_over, LegEnd, best, no_path, heap_full, leg_end, PairPlan, skip, same_edge, by_search, middle_max, pair_plan, MiddleSearch, middle_of, Turn, ends, goes_on, after_search, after_pair, try_pair, end_or_try, next_pair, try_pairs, by_sum, else_pairs, find_best_path}
use Rattle.model.proofs.Members.{here, either, in_sort, fold_holds}
use Rattle.bounds.proofs.Sources.{in_leg_pairs}

-- ---- a law of paths, read of a best so far, of what a leg finds, of a turn and of what a pair asks for

module _ (P : PathResult → Type 0) where
  abbrev Holds : Option Scored → Type 0
  Holds none = Unit {0}
  Holds (some s) = P s.path

  abbrev pub Finds : LegEnd → Type 0
  Finds (best r) = P r
  Finds no_path = Unit {0}
  Finds heap_full = Unit {0}

  abbrev Turns : Turn → Type 0
  Turns (ends e) = Finds e
  Turns (goes_on o) = Holds o

  abbrev PlanHolds : PairPlan → Type 0
  PlanHolds skip = Unit {0}
  PlanHolds (same_edge o) = Holds o
  PlanHolds (by_search bound) = Unit {0}

  when_holds : (b : Bool) (s : Scored) → (T b → P s.path) → Holds (when b s)
  unfolding when
  when_holds true s h = h tt
  when_holds false s h = tt

  improve_holds : (x y : Option Scored) → Holds x → Holds y → Holds (improve x y)
  unfolding improve
  improve_holds x none h k = h
  improve_holds x (some s) h k = either Holds (s.score <ᶠ best_score x) k h

  first_holds : (x y : Option Scored) → Holds x → Holds y → Holds (first_or_better x y)
  unfolding first_or_better
  first_holds none y h k = k
  first_holds (some b) y h k = improve_holds (some b) y h k

  leg_end_holds : (o : Option Scored) → Holds o → Finds (leg_end o)
  unfolding leg_end
  leg_end_holds none h = tt
  leg_end_holds (some s) h = h

  next_holds : (t : Turn) (next : Option Scored → LegEnd) → Turns t → ((o : Option Scored) → Holds o → Finds (next o)) → Finds (next_pair t next)
  unfolding next_pair
  next_holds (ends e) next h k = h
  next_holds (goes_on o) next h k = k o h

module _ (P : PathResult → Type 0) (F : SearchEnd → Type 0) (b : Limits) (search : MiddleSearch) where
  -- What a pair gives: P of its path on one road, F of what it asks a search for, and P of the paths over what F holds of.
  pub record Gives (p : Pair) : Type 0 where
    pub same_edge : T (fits_same_edge b p) → P (same_edge_path p)
    pub asks : (bound : Float) → F (search p.start.road.target p.end.road.source bound)
    pub over : (cost : Float) (middle : List Road) → F (found cost middle) → P (path_over p (path_cost p cost) middle)

  -- ---- one pair

  one_edge_holds : (p : Pair) → Gives p → Holds P (same_edge_scored b p)
  unfolding same_edge_scored
  one_edge_holds p g = when_holds P (fits_same_edge b p) record { path = same_edge_path p; score = score_of b p (same_edge_length p) } g.same_edge

  over_holds : (p : Pair) → Gives p → (cost : Float) (middle : List Road) → F (found cost middle) → Holds P (scored_over b p cost middle)
  unfolding scored_over
  over_holds p g cost middle f =
      let total = path_cost p cost in
      when_holds P (fits_path b total) record { path = path_over p total middle; score = score_of b p total } (λ t. g.over cost middle f)

  close_holds : (p : Pair) → Gives p → (o : Option Scored) → Holds P o → Holds P (take_close b o p)
  unfolding take_close
  close_holds p g o h = either (Holds P) (close b p) (first_holds P o (same_edge_scored b p) h (one_edge_holds p g)) h

  plan_holds : (p : Pair) → Gives p → PlanHolds P (pair_plan b p)
  unfolding pair_plan
  plan_holds p g =
      either (PlanHolds P) (not (permits b.constraints p.start.road && permits b.constraints p.end.road)) tt
      (either (PlanHolds P) (same_road p) (one_edge_holds p g)
      (either (PlanHolds P) (middle_max b p ≤ᶠ f0) tt tt))

  after_search_holds : (p : Pair) → Gives p → (o : Option Scored) → Holds P o → (f : SearchEnd) → F f → Turns P (after_search b p o f)
  unfolding after_search
  after_search_holds p g o h none_found f = h
  after_search_holds p g o h full f = tt
  after_search_holds p g o h (found cost middle) f = improve_holds P o (scored_over b p cost middle) h (over_holds p g cost middle f)

  after_pair_holds : (p : Pair) → Gives p → (o : Option Scored) → Holds P o → (a : PairPlan) → PlanHolds P a → Turns P (after_pair b p o a (middle_of search p a))
  unfolding after_pair middle_of
  after_pair_holds p g o h skip k = h
  after_pair_holds p g o h (same_edge s) k = improve_holds P o s h k
  after_pair_holds p g o h (by_search bound) k = after_search_holds p g o h (search p.start.road.target p.end.road.source bound) (g.asks bound)

  pair_holds : (p : Pair) → Gives p → (o : Option Scored) → Holds P o → Turns P (try_pair b search o p)
  unfolding try_pair
  pair_holds p g o h = after_pair_holds p g o h (pair_plan b p) (plan_holds p g)

  turn_holds : (stop : Bool) (p : Pair) → Gives p → (o : Option Scored) → Holds P o → Turns P (end_or_try stop b search o p)
  unfolding end_or_try
  turn_holds true p g o h = leg_end_holds P o h
  turn_holds false p g o h = pair_holds p g o h

  -- ---- all pairs

  pairs_hold : (ps : List Pair) → ((p : Pair) → In p ps → Gives p) → (o : Option Scored) → Holds P o → Finds P (try_pairs b search ps o)
  unfolding try_pairs
  pairs_hold [] g o h = leg_end_holds P o h
  pairs_hold (p ∷ ps) g o h = next_holds P (end_or_try (best_score o ≤ᶠ p.sum) b search o p) (try_pairs b search ps) (turn_holds (best_score o ≤ᶠ p.sum) p (g p here) o h) (pairs_hold ps (λ q m. g q (Memᴰ.tail m)))

  same_edge_holds : (ps : List Pair) → ((p : Pair) → In p ps → Gives p) → Holds P (try_same_edge_solution b ps)
  unfolding try_same_edge_solution
  same_edge_holds ps g = fold_holds (Holds P) (take_close b) none ps tt (λ p m o h. close_holds p (g p m) o h)

  else_holds : (ps : List Pair) → ((p : Pair) → In p ps → Gives p) → (o : Option Scored) → Holds P o → Finds P (else_pairs b search ps o)
  unfolding else_pairs
  else_holds ps g none h = pairs_hold (sort by_sum ps) (λ p m. g p (in_sort by_sum ps m)) none tt
  else_holds ps g (some s) h = h

  -- whatever a leg finds has P, where each pair of a start in xs and an end in ys gives it
  pub leg_law : (xs ys : List Candidate) → ((p : Pair) → In p.start xs → In p.end ys → Gives p) → Finds P (find_best_path b search xs ys)
  unfolding find_best_path
  leg_law xs ys g = else_holds (leg_pairs xs ys) each (try_same_edge_solution b (leg_pairs xs ys)) (same_edge_holds (leg_pairs xs ys) each)
    where
      each : (p : Pair) → In p (leg_pairs xs ys) → Gives p
      each p m = let k = in_leg_pairs {p = p} xs ys m in g p k.0 k.1
