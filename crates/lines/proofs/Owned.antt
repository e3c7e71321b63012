-- A leg's route: what its search finds is what the marks lead back over, and its roads are the sheet's own, since the definition's are.
use Rattle.std.proofs.Common.{◌≡◌, ℕ, zero, suc, ◌+◌, ◌-◌, ◌<◌, List, [], ◌∷◌, ◌++◌, map, length, get_or, take, Option, Some, None, Result, Ok, refl, sym, ap, ◌∙◌, subst, inl, inr, arith, zero-add}
use Rattle.std.proofs.lemmas.List.{get_or_at, take-take}
use native.Mathlib.Nat.{le_refl}
use Rattle.std.proofs.Math.ListN.{get_or-append}
use mathlib.Core.List.Memᴰ
use Rattle.model.specs.declared.Counts.{Counts}
use Rattle.model.specs.declared.Road.{Road}
use Rattle.model.specs.declared.Limits.{Limits}
use Rattle.model.specs.declared.Point.{Point}
use Rattle.model.specs.Layout.{points_bytes}
use Rattle.model.specs.Lists.{In, tabulate}
use Rattle.model.specs.Judge.{WellFormed}
use Rattle.model.specs.Sheet.{MeasuredPoint, Sheet, sheet_of, road_at, point_of, measured_point}
use Rattle.model.specs.View.{limits_of, view}
use Rattle.model.specs.Candidates.{Candidate}
use Rattle.model.specs.Legs.{Pair, pairs, leg_pairs, MiddleSearch, best, whole, try_same_edge_solution, else_pairs, find_best_path}
use Rattle.model.specs.Legs as model
use Rattle.model.proofs.Members.{here, tab_in}
use Rattle.model.proofs.Parsed.{road_count, measured_point_is}
use Rattle.bounds.specs.Amounts.{Amount}
use Rattle.bounds.proofs.AmountLaws.{finite_amount}
use Rattle.bounds.proofs.FormedProof.{well_formed_formed}
use Rattle.bounds.proofs.PathLaws.{InSheet, sheet_roads}
use Rattle.bounds.proofs.PathRoads.{RouteRoads, leg_roads}
use Rattle.bounds.proofs.EndBound.{own_road}
use Rattle.bounds.proofs.Legs.{Finds}
use Rattle.bounds.proofs.Choices.{below_or_not}
use Rattle.sheet.specs.declared.Sheet as code
use Rattle.sheet.specs.Contents.{contents}
use Rattle.candidates.specs.Found.{no_point, candidates_at, tried_at}
use Rattle.candidates.specs.Points.{candidates_of}
use Rattle.candidates.proofs.Rules.{candidates_are}
use Rattle.rules.specs.declared.Middle.{Middle}
use Rattle.rules.specs.declared.PathResult.{PathResult}
use Rattle.rules.specs.declared.TerminalEdge.{TerminalEdge}
use Rattle.rules.specs.Code.{terminal_of, with_middle, middle_in}
use Rattle.search.specs.Areas.{back_way, LeadsBack}
use Rattle.search.specs.declared.areas.SearchAreas.{SearchAreas}
use Rattle.search.specs.Answers.{RoadNumbers}
use Rattle.search.proofs.Walks.{back_size}
use Rattle.legs.specs.declared.LegError.{LegError}
use Rattle.legs.specs.Found.{middle_search_at, leg_end_of, Led}
use Rattle.full_path.specs.Left.{path_of, count_of, Own, Known}
use Rattle.lines.specs.Legs.{leg_limits, leg_end_from, marked_way}
use Rattle.lines.proofs.Sequence.{leg_from, legs_are}

-- ---- what a leg finds

-- the point of the leg's start
pub limits_are : (s : List ℕ) (c : Counts) (i : ℕ) → i < c.p → (p : Point) → p ≡ point_of (points_bytes s c) i → limits_of (sheet_of s c).settings p ≡ leg_limits (sheet_of s c) i
unfolding measured_point
limits_are s c i h p is = ap (limits_of (sheet_of s c).settings) (is ∙ ap (λ (x : MeasuredPoint). x.point) (sym (measured_point_is s c i h no_point)))

-- its penalties are those of the settings, which are amounts
pub priced : (s : List ℕ) (c : Counts) → WellFormed s c → (i : ℕ) {b : Limits} → b ≡ leg_limits (sheet_of s c) i → Amount b.constraints.slip_road_cost_penalty × Amount b.constraints.access_road_cost_penalty
unfolding limits_of
priced s c w i e = let formed = well_formed_formed s c w in subst (λ (x : Limits). Amount x.constraints.slip_road_cost_penalty × Amount x.constraints.access_road_cost_penalty) (sym e) (finite_amount _ formed.slip, finite_amount _ formed.access)

-- of the first ten of two lists a leg tries the same pairs
same_pairs : (xs ys : List Candidate) → leg_pairs (take 10 xs) (take 10 ys) ≡ leg_pairs xs ys
same_pairs xs ys = rw (take-take 10 10 xs (le_refl 10), take-take 10 10 ys (le_refl 10))

module _ (t : Sheet) (slots i : ℕ) {b : Limits} {xs ys : List Candidate} (x : Result PathResult LegError) (limits : b ≡ leg_limits t i) (start : xs ≡ tried_at t i) (end : ys ≡ tried_at t (i + 1)) (means : leg_end_of (middle_search_at t slots b) x ≡ find_best_path b (middle_search_at t slots b) xs ys) where
  -- with its limits and its candidates at hand
  pub leg_end_is : leg_end_of (middle_search_at t slots b) x ≡ leg_end_from t slots i
  unfolding leg_end_from find_best_path
  leg_end_is =
      let search = middle_search_at t slots b in
      means
      ∙ ap (λ (l : List Candidate). find_best_path b search l ys) start ∙ ap (find_best_path b search (tried_at t i)) end
      ∙ ap (λ (ps : List Pair). else_pairs b search ps (try_same_edge_solution b ps)) (same_pairs (candidates_at t i) (candidates_at t (i + 1)))
      ∙ rw limits

  -- with its roads at hand
  pub route_is : (r : PathResult) (ks : List ℕ) → x ≡ Ok r → map (road_at t) ks ≡ middle_in (middle_search_at t slots b) r.middle → best (path_of t r ks) ≡ leg_end_from t slots i
  route_is r ks found roads = ap (λ (l : List Road). best (with_middle r l)) roads ∙ ap (leg_end_of (middle_search_at t slots b)) (sym found) ∙ leg_end_is

-- ---- its roads

-- the roads back are numbers of the e roads
back_numbers : (roads : ℕ → Road) (e : ℕ) (came : List ℕ) (k v : ℕ) → LeadsBack roads e came k v → RoadNumbers e k (back_way roads came k v)
unfolding back_way LeadsBack
back_numbers roads e came zero v h j l = absurd (omega arith)
back_numbers roads e came (suc k) v h j l =
    let u = (roads (get_or came v 0)).source in
    let before = back_way roads came k u in
    let size = back_size roads came k u in
    elim (below_or_not j k) [
      | inl p ↦ omega (arith, back_numbers roads e came k u h.1 j p, get_or-append before (get_or came v 0 ∷ []) 0 j (omega (arith, size)))
      | inr p ↦ omega (arith, h.0, get_or_at before (get_or came v 0) [] 0 j (omega (arith, size)))
    ]

-- the roads ks of a route's middle are what its search finds
pub record MiddleRoads (t : Sheet) (c : Counts) (search : MiddleSearch) (middle : Option Middle) (ks : List ℕ) : Type 0 where
  pub roads : map (road_at t) ks ≡ middle_in search middle
  pub count : length ks ≡ count_of middle
  pub few : length ks < c.n
  pub numbers : RoadNumbers c.e (length ks) ks

-- so they are where the marks lead back over them
pub marked_roads : (search : MiddleSearch) (areas : SearchAreas) (middle : Option Middle) → 0 < areas.sheet.counts.n → Led search areas middle → MiddleRoads (contents areas.sheet) areas.sheet.counts search middle (marked_way areas middle)
unfolding middle_in
marked_roads search areas None some led = record { roads = refl; count = refl; few = some; numbers = λ j h. absurd (omega arith) }
marked_roads search areas (Some m) some led =
    let roads = road_at (contents areas.sheet) in
    let came = areas.came_from.now in
    let size = back_size roads came m.count m.goal in
    record { roads = led.roads; count = size; few = omega (arith, size, led.few); numbers = rw size (back_numbers roads areas.sheet.counts.e came m.count m.goal led.leads) }

module _ (search : MiddleSearch) (areas : SearchAreas) (middle : Option Middle) (led : Led search areas middle) where
  pub walked : (sheet : code.Sheet) → areas.sheet ≡ sheet → (ks : List ℕ) → ks ≡ marked_way areas middle → 0 < sheet.counts.n → MiddleRoads (contents sheet) sheet.counts search middle ks
  walked sheet same ks is some = rw (is, ← same) (marked_roads search areas middle (rw (← same) at some) led)

module _ (s : List ℕ) (c : Counts) (w : WellFormed s c) (slots i : ℕ) (h : i + 1 < c.p) where
  abbrev t : Sheet
  t = sheet_of s c

  leg_in : In (leg_from s c i) (view t).legs
  leg_in = rw (legs_are s c) (subst (λ (j : ℕ). In (leg_from s c j) (tabulate (c.p - 1) 0 (leg_from s c))) (zero-add i) (tab_in (c.p - 1) 0 (leg_from s c) i (omega arith)))

  found_in : (k : ℕ) → k < c.p → In (candidates_at t k) (candidates_of t)
  found_in k g = rw (candidates_are s c) (subst (λ (j : ℕ). In (candidates_at t j) (tabulate c.p 0 (candidates_at t))) (zero-add k) (tab_in c.p 0 (candidates_at t) k g))

  leg_end_roads : Finds (RouteRoads (InSheet t)) (leg_end_from t slots i)
  unfolding leg_end_from middle_search_at candidates_of
  leg_end_roads =
      let wf = well_formed_formed s c w in
      leg_roads t wf (InSheet t) (sheet_roads t wf) slots (leg_from s c i) (candidates_at t i) (candidates_at t (i + 1)) leg_in (found_in i (omega arith)) (found_in (i + 1) h)

  owned : (r : Road) → InSheet t r → (r.number < c.e) × (road_at t r.number ≡ r)
  owned r m =
      let o = own_road t (well_formed_formed s c w) r m in
      (rw (road_count s c) at o.0, o.1)

  own_terminal : (p : Option TerminalEdge) → ((x : model.EdgeCoverage) → In x (terminal_of p) → InSheet t x.road) → Own (sheet_of s c) c.e p
  own_terminal None all = tt
  own_terminal (Some p) all = owned p.road (all _ here)

  -- a route that the leg finds
  pub route_known : (r : PathResult) (ks : List ℕ) (search : MiddleSearch) → MiddleRoads (sheet_of s c) c search r.middle ks → best (path_of (sheet_of s c) r ks) ≡ leg_end_from (sheet_of s c) slots i → Known (sheet_of s c) c r ks
  route_known r ks search middle is =
      let roads : RouteRoads (InSheet t) (path_of t r ks) = subst (Finds (RouteRoads (InSheet t))) (sym is) leg_end_roads in
      record {
        few = middle.few;
        numbers = middle.numbers;
        head = own_terminal r.head (λ x m. roads _ (Memᴰ.append_left (terminal_of r.tail) (Memᴰ.append_left (map whole (map (road_at t) ks)) m)));
        tail = own_terminal r.tail (λ x m. roads _ (Memᴰ.append_right (terminal_of r.head ++ map whole (map (road_at t) ks)) m));
      }
