-- Every search that the decode of a well-formed sheet makes starts at a node and goes over proper ways, so searches that agree there give the same outcome; larger bounds change nothing in the whole call.
use Prim.Native.Nat.{ℕ, ◌+◌, ◌-◌, ◌≤◌, ◌<◌}
use mathlib.Core.Path.{◌≡◌, refl, sym, ap, ◌∙◌, subst}
use mathlib.Core.Bool.{Bool, true, false, cond}
use mathlib.Core.Option.{Option, none, some}
use mathlib.Core.List.Memᴰ
use mathlib.Core.List.{List, [], ◌∷◌, map}
use lib.Dec.{eqb, ltb}
use lib.ListN.{length}
use lib.Ieee.{Float}
use Rattle.model.specs.declared.Point.{Point}
use Rattle.model.specs.declared.Road.{Road}
use Rattle.model.specs.declared.Limits.{Limits}
use Rattle.model.specs.Judge.{Judged}
use Rattle.model.specs.Judge.{Fine, Refused}
use Rattle.model.specs.Numbers.{◌≤ᶠ◌, f0}
use Rattle.model.specs.Lists.{In, maybe, sort}
use Rattle.model.specs.Layout.{point_along_line}
use Rattle.model.specs.Judge.{judged}
use Rattle.model.specs.Sheet.{MeasuredPoint, Sheet, leaving_roads, sheet_of, parsed}
use Rattle.model.specs.View.{Leg, is_slip, permits, penalty, limits_of, projected_point, leg_of, leg_starts, view}
use Rattle.model.specs.Candidates.{Candidate, find_candidates, closest_point}
use Rattle.model.specs.Search.{Query, Search, SearchEnd, found, search_within, bounded_astar}
use Rattle.model.specs.Legs.{Scored, Pair, PairPlan, skip, same_edge, by_search, MiddleSearch, LegEnd, best_score, leg_pairs, try_same_edge_solution, pair_plan, middle_of, after_pair, try_pair, end_or_try, next_pair, try_pairs, by_sum, else_pairs, find_best_path}
use Rattle.model.specs.Decode.{query_of, middle_search, FullPath, no_path_yet, Outcome, refused, with_primary, extended, path_of_leg, after_leg, decode_line, decode_point_along_line, decode_legs, first_empty, require_close_candidate, decode_points, outcome}
use Rattle.model.specs.Call.{Lists, Lent, has_room, answered, untouched, decode_by, decode_sheet, after_judging, decode}
use Rattle.model.proofs.Members.{here, either, in_keep, in_sort}
use Rattle.bounds.specs.Amounts.{Amount}
use Rattle.bounds.specs.Formed.{Formed}
use Rattle.bounds.specs.Routes.{Ways}
use Rattle.bounds.specs.Theorems.{FuelTheorem, decode_within}
use Rattle.bounds.proofs.AmountLaws.{finite_amount, zero_amount}
use Rattle.bounds.proofs.FormedProof.{formed}
use Rattle.bounds.proofs.SearchBound.{search_theorem}
use Rattle.bounds.proofs.Room.{room_facts}
use Rattle.bounds.proofs.Sources.{found_on_roads, in_leg_pairs, leaving_road}

-- ---- the ways that a leg gives a search

penalty_amount : {t : Sheet} → Formed t → (p : Point) (r : Road) → Amount (penalty (limits_of t.settings p).constraints r)
unfolding penalty limits_of
penalty_amount wf p r = either Amount (is_slip r) (finite_amount _ wf.slip) (either Amount r.access (finite_amount _ wf.access) zero_amount)

pub leg_ways : (t : Sheet) → Formed t → (p : MeasuredPoint) (goal : ℕ) (bound : Float) → Ways (query_of (view t) (leg_of t p) goal bound)
unfolding query_of view
leg_ways t wf p goal bound = record {
  roads = λ v r m.
      let k = leaving_road wf v r (in_keep (permits (limits_of t.settings p.point).constraints) (leaving_roads t v) m).0 in
      let facts = wf.roads r k.0 in
      record { source = k.1; target = facts.target; length_m = facts.length_m };
  penalties = penalty_amount wf p.point;
}

-- ---- two ways of seeking that agree wherever a leg asks

module _ (b : Limits) (f g : MiddleSearch) where
  middle_same : (p : Pair) → ((bound : Float) → f p.start.road.target p.end.road.source bound ≡ g p.start.road.target p.end.road.source bound) → (a : PairPlan) → middle_of f p a ≡ middle_of g p a
  unfolding middle_of
  middle_same p h skip = refl
  middle_same p h (same_edge s) = refl
  middle_same p h (by_search bound) = h bound

  turn_same : (stop : Bool) (p : Pair) → ((bound : Float) → f p.start.road.target p.end.road.source bound ≡ g p.start.road.target p.end.road.source bound)
      → (so_far : Option Scored) → end_or_try stop b f so_far p ≡ end_or_try stop b g so_far p
  unfolding end_or_try try_pair
  turn_same true p h so_far = refl
  turn_same false p h so_far = let a = pair_plan b p in ap (after_pair b p so_far a) (middle_same p h a)

  pairs_same : (ps : List Pair) → ((p : Pair) → In p ps → (bound : Float) → f p.start.road.target p.end.road.source bound ≡ g p.start.road.target p.end.road.source bound)
      → (so_far : Option Scored) → try_pairs b f ps so_far ≡ try_pairs b g ps so_far
  unfolding try_pairs
  pairs_same [] h so_far = refl
  pairs_same (p ∷ ps) h so_far = λ i. next_pair (turn_same (best_score so_far ≤ᶠ p.sum) p (h p here) so_far i) (λ x. pairs_same ps (λ q m. h q (Memᴰ.tail m)) x i)

  pub best_path_same : (xs ys : List Candidate)
      → ((x y : Candidate) → In x xs → In y ys → (bound : Float) → f x.road.target y.road.source bound ≡ g x.road.target y.road.source bound)
      → find_best_path b f xs ys ≡ find_best_path b g xs ys
  unfolding find_best_path else_pairs
  best_path_same xs ys h = go (try_same_edge_solution b (leg_pairs xs ys))
    where
      go : (o : Option Scored) → else_pairs b f (leg_pairs xs ys) o ≡ else_pairs b g (leg_pairs xs ys) o
      go (some s) = refl
      go none = pairs_same (sort by_sum (leg_pairs xs ys)) (λ p m. let k = in_leg_pairs xs ys (in_sort by_sum (leg_pairs xs ys) m) in h p.start p.end k.0 k.1) none

-- ---- what the decode of a well-formed sheet asks with

-- candidates on roads of the sheet
abbrev pub OnRoads : Sheet → List Candidate → Type 0
OnRoads t xs = (c : Candidate) → In c xs → In c.road t.roads

-- a leg whose searches all go over proper ways
abbrev pub Proper : Sheet → Leg → Type 0
Proper t leg = (goal : ℕ) (bound : Float) → Ways (query_of (view t) leg goal bound)

pub legs_proper : (t : Sheet) → Formed t → (leg : Leg) → In leg (view t).legs → Proper t leg
unfolding view
legs_proper t wf leg m = let k = Memᴰ.of_map (leg_of t) (leg_starts t) m in subst (Proper t) k.2 (leg_ways t wf k.0)

pub candidates_on_roads : (t : Sheet) → Formed t → (ys : List Candidate) → In ys (map (find_candidates (view t).settings) (view t).points) → OnRoads t ys
unfolding view
candidates_on_roads t wf ys m =
    let k = Memᴰ.of_map (find_candidates t.settings) (map (projected_point t) t.points) m in
    let j = Memᴰ.of_map (projected_point t) t.points k.1 in
    subst (OnRoads t) (ap (find_candidates t.settings) j.2 ∙ k.2) (found_on_roads wf j.0 j.1)

-- ---- two searches that agree wherever that decode can ask

module _ (t : Sheet) (wf : Formed t) (f g : Search) (same : (q : Query) (start : ℕ) → Ways q → q.nodes ≡ t.nodes → start < t.nodes → f q start ≡ g q start) where
  middle_search_same : (leg : Leg) → Proper t leg → (start goal : ℕ) (bound : Float) → start < t.nodes → middle_search (view t) f leg start goal bound ≡ middle_search (view t) g leg start goal bound
  unfolding middle_search query_of view
  middle_search_same leg ways start goal bound h = ap (λ (x : SearchEnd). cond (eqb start goal) (found f0 []) x) (same (query_of (view t) leg goal bound) start (ways goal bound) refl h)

  path_same : (leg : Leg) → Proper t leg → (xs ys : List Candidate) → OnRoads t xs
      → find_best_path leg.limits (middle_search (view t) f leg) xs ys ≡ find_best_path leg.limits (middle_search (view t) g leg) xs ys
  path_same leg ways xs ys on = best_path_same leg.limits (middle_search (view t) f leg) (middle_search (view t) g leg) xs ys
      (λ x y m k bound. middle_search_same leg ways x.road.target y.road.source bound (wf.roads x.road (on x m)).target)

  line_same : (legs : List Leg) → ((leg : Leg) → In leg legs → Proper t leg) → (rest : List (List Candidate)) → ((ys : List Candidate) → In ys rest → OnRoads t ys)
      → (i : ℕ) (k : FullPath) (xs : List Candidate) → OnRoads t xs → decode_line (view t) f i k xs legs rest ≡ decode_line (view t) g i k xs legs rest
  unfolding decode_line
  line_same [] ways rest on i k xs h = refl
  line_same (leg ∷ legs) ways [] on i k xs h = refl
  line_same (leg ∷ legs) ways (ys ∷ rest) on i k xs h =
      λ j. after_leg i (path_same leg (ways leg here) xs ys h j)
      (λ r. line_same legs (λ l m. ways l (Memᴰ.tail m)) rest (λ zs m. on zs (Memᴰ.tail m)) (i + 1) (extended i k leg r) ys (on ys here) j)

  point_same : (legs : List Leg) → ((leg : Leg) → In leg legs → Proper t leg) → (rest : List (List Candidate)) (xs : List Candidate) → OnRoads t xs
      → decode_point_along_line (view t) f xs legs rest ≡ decode_point_along_line (view t) g xs legs rest
  unfolding decode_point_along_line
  point_same [] ways rest xs h = refl
  point_same (leg ∷ legs) ways [] xs h = refl
  point_same (leg ∷ legs) ways (ys ∷ rest) xs h = ap (λ (x : LegEnd). after_leg 0 x (λ r. with_primary 2 (path_of_leg leg r))) (path_same leg (ways leg here) xs ys h)

  legs_same : (cs : List (List Candidate)) → ((ys : List Candidate) → In ys cs → OnRoads t ys) → decode_legs (view t) f cs ≡ decode_legs (view t) g cs
  unfolding decode_legs
  legs_same [] on = refl
  legs_same (xs ∷ rest) on =
      let legs = (view t).legs in
      let proper = legs_proper t wf in
      λ i. cond (eqb (view t).kind point_along_line) (point_same legs proper rest xs (on xs here) i)
      (line_same legs proper rest (λ ys m. on ys (Memᴰ.tail m)) 0 no_path_yet xs (on xs here) i)

  points_same : (cs : List (List Candidate)) → ((ys : List Candidate) → In ys cs → OnRoads t ys) → decode_points (view t) f cs ≡ decode_points (view t) g cs
  unfolding decode_points require_close_candidate
  points_same [] on = refl
  points_same (xs ∷ rest) on =
      let cs = xs ∷ rest in
      let n = closest_point cs in
      ap (λ (x : Outcome). maybe (first_empty 0 cs) (cond (n.distance ≤ᶠ (view t).settings.max_candidate_distance_m) x (refused 9 n.point 0)) (λ i. refused 9 i 0)) (legs_same cs on)

  pub outcome_same : outcome (view t) f ≡ outcome (view t) g
  unfolding outcome
  outcome_same = ap (λ (x : Outcome). cond (ltb point_along_line (view t).kind) (refused 7 (view t).kind 0) x)
      (points_same (map (find_candidates (view t).settings) (view t).points) (candidates_on_roads t wf))

-- ---- the whole call

-- larger bounds change no outcome
pub outcome_enough : (t : Sheet) → Formed t → (slots steps turns : ℕ) → 1 ≤ slots → t.nodes - 1 ≤ steps → slots ≤ turns
    → outcome (view t) (search_within steps turns slots) ≡ outcome (view t) (bounded_astar slots)
outcome_enough t wf slots steps turns one h k = outcome_same t wf (search_within steps turns slots) (bounded_astar slots)
    (λ q start ways e m. (search_theorem q start slots ways (subst (λ (n : ℕ). start < n) (sym e) m) one).enough steps turns (subst (λ (n : ℕ). n - 1 ≤ steps) (sym e) h) k)

-- nor what a parsed sheet is answered: without room nothing is searched
sheet_enough : (t : Sheet) → Formed t → (lent : Lent) (steps turns : ℕ) → t.nodes - 1 ≤ steps → lent.heap ≤ turns → decode_by (search_within steps turns lent.heap) t lent ≡ decode_sheet t lent
unfolding decode_by decode_sheet
sheet_enough t wf lent steps turns h k = go (has_room (length t.points) t.nodes lent) refl
  where
    l : Lists
    l = lent.lists

    go : (b : Bool) → has_room (length t.points) t.nodes lent ≡ b
        → cond b (answered t l (outcome (view t) (search_within steps turns lent.heap))) (untouched 6 0 l) ≡ cond b (answered t l (outcome (view t) (bounded_astar lent.heap))) (untouched 6 0 l)
    go true e = ap (answered t l) (outcome_enough t wf lent.heap steps turns (room_facts (length t.points) t.nodes lent e).heap h k)
    go false e = refl

pub fuel_theorem : FuelTheorem
unfolding decode_within decode after_judging sheet_of
fuel_theorem s lent steps turns h k = go (judged s) refl
  where
    go : (j : Judged) → judged s ≡ j → after_judging j s lent.lists (λ t. decode_by (search_within steps turns lent.heap) t lent) ≡ after_judging j s lent.lists (λ t. decode_sheet t lent)
    go (Refused number at) e = refl
    go Fine e = sheet_enough (parsed s) (formed s e) lent steps turns h k
