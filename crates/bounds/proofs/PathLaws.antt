-- The full paths of a well-formed sheet: what its candidates and its searches give, and the laws of legs and lines put together over them.
use Prim.Native.Nat.{ℕ, zero, suc, ◌-◌, ◌≤◌, ◌<◌, zero-le}
use mathlib.Core.Path.{◌≡◌, refl, ap, ◌∙◌, subst}
use mathlib.Core.Logic.{inl, inr}
use mathlib.Core.Bool.{cond}
use mathlib.Core.Option.{Option, none, some}
use mathlib.Core.List.Memᴰ
use mathlib.Core.List.{List, [], ◌∷◌, map}
use native.Mathlib.Nat.{le_trans, le_of_eq, zero-lt-suc}
use lib.Dec.{T, eqb}
use lib.ListN.{length, length-map}
use lib.Ieee.{Float}
use Rattle.model.specs.declared.Road.{Road}
use Rattle.model.specs.declared.Row.{Row}
use Rattle.model.specs.declared.Limits.{Limits}
use Rattle.model.specs.Lists.{In, last, maybe}
use Rattle.model.specs.Sheet.{MeasuredPoint, Sheet, road_at, leaving_roads}
use Rattle.model.specs.View.{Leg, permits, projection_of, projected_point, leg_of, leg_starts, limits_of, view}
use Rattle.model.specs.Candidates.{Candidate, fraction, candidate_of, find_candidates}
use Rattle.model.specs.Search.{Query, SearchEnd, found, none_found, full, bounded_astar}
use Rattle.model.specs.Legs.{EdgeCoverage, PathResult, Pair, fits_same_edge, same_edge_path, path_cost, path_over, find_best_path}
use Rattle.model.specs.Decode.{query_of, middle_search, same_number, append, FullPath, outcome, matched}
use Rattle.model.proofs.Members.{either, in_getD, in_keep, Every, every_append, length_front}
use Rattle.bounds.specs.Amounts.{Amount, Portion}
use Rattle.bounds.specs.Formed.{Formed}
use Rattle.bounds.specs.Routes.{Leads}
use Rattle.bounds.specs.Theorems.{SearchBound}
use Rattle.bounds.proofs.AmountLaws.{zero_amount, held_portion}
use Rattle.bounds.proofs.SearchBound.{search_theorem}
use Rattle.bounds.proofs.Sources.{candidate_projection, leaving_road}
use Rattle.bounds.proofs.Searches.{leg_ways}
use Rattle.bounds.proofs.Legs.{Finds, Gives, leg_law}
use Rattle.bounds.proofs.Lines.{Kept, Met, candidates_of, outcome_law}

-- ---- properties of roads

-- R holds of every road that a row names, and of every road that a leg permits.
pub record RoadLaw (t : Sheet) (R : Road → Type 0) : Type 0 where
  pub rows : (p : MeasuredPoint) → In p t.points → (w : Row) → In w p.rows → R (road_at t w.road)
  pub ways : (p : MeasuredPoint) → In p (leg_starts t) → (v : ℕ) (r : Road) → In r ((leg_of t p).leaving v) → R r

-- for instance that it is a road of the sheet
abbrev pub InSheet : Sheet → Road → Type 0
InSheet t r = In r t.roads

pub sheet_roads : (t : Sheet) → Formed t → RoadLaw t (InSheet t)
sheet_roads t wf = record {
  rows = λ p m w j. in_getD t.roads w.road _ (wf.rows p m w j).road;
  ways = λ p m v r j. (leaving_road wf v r (in_keep (permits (limits_of t.settings p.point).constraints) (leaving_roads t v) j).0).0;
}

-- ---- what candidates and searches give

-- A candidate lies on a road of the sheet that a row names, some part of 0 to 1 along it.
pub record CandidateFacts (t : Sheet) (R : Road → Type 0) (c : Candidate) : Type 0 where
  pub road : InSheet t c.road
  pub law : R c.road
  pub projection_fraction : Portion c.projection_fraction

-- A search finds fewer roads than there are nodes, all permitted, at an amount of metres.
pub record MiddleFacts (t : Sheet) (R : Road → Type 0) (metres : Float) (middle : List Road) : Type 0 where
  pub few : length middle ≤ t.nodes - 1
  pub cost : Amount metres
  pub roads : Every R middle

abbrev pub FoundFacts : Sheet → (Road → Type 0) → SearchEnd → Type 0
FoundFacts t R (found cost middle) = MiddleFacts t R cost middle
FoundFacts t R none_found = Unit {0}
FoundFacts t R full = Unit {0}

-- What gives the paths of a leg P: those on one road that fit, and those over what a search found.
pub record RouteLaw (t : Sheet) (R : Road → Type 0) (P : PathResult → Type 0) : Type 0 where
  pub same_edge : (b : Limits) (p : Pair) → CandidateFacts t R p.start → CandidateFacts t R p.end → T (fits_same_edge b p) → P (same_edge_path p)
  pub over : (p : Pair) → CandidateFacts t R p.start → CandidateFacts t R p.end → (cost : Float) (middle : List Road) → MiddleFacts t R cost middle → P (path_over p (path_cost p cost) middle)

-- each road of a way leaves some node
leads_in : (q : Query) (u v : ℕ) (roads : List Road) → Leads q u roads v → (r : Road) → In r roads → (w : ℕ) × In r (q.leaving w)
leads_in q u v [] l r m = absurd (Memᴰ.not-nil m)
leads_in q u v (x ∷ xs) l r m = elim (Memᴰ.cases_cons m) [
  | inl e ↦ (u, Memᴰ.cast e l.1)
  | inr k ↦ leads_in q x.target v xs l.2 r k
]

-- a heap without slots is full
no_slots : (q : Query) (start : ℕ) → bounded_astar 0 q start ≡ full
unfolding bounded_astar
no_slots q start = refl

module _ (t : Sheet) (wf : Formed t) (R : Road → Type 0) (law : RoadLaw t R) where
  candidate_facts : (p : MeasuredPoint) → In p t.points → (c : Candidate) → In c (find_candidates t.settings (projected_point t p)) → CandidateFacts t R c
  unfolding candidate_of fraction
  candidate_facts p m c k =
      let s = candidate_projection t.settings (projected_point t p) c k in
      let w = Memᴰ.of_map (projection_of t) p.rows s.1 in
      let f = wf.rows p m w.0 w.1 in
      subst (CandidateFacts t R) (ap (candidate_of t.settings p.point) w.2 ∙ s.2) record {
        road = in_getD t.roads w.0.road _ f.road;
        law = law.rows p m w.0 w.1;
        projection_fraction = held_portion w.0.along_m w.0.length_m f.along_m f.length_m;
      }

  -- every candidate of the view
  view_facts : (xs : List Candidate) → In xs (candidates_of (view t)) → Every (CandidateFacts t R) xs
  unfolding view
  view_facts xs m =
      let place = Memᴰ.of_map (find_candidates t.settings) (map (projected_point t) t.points) m in
      let stop = Memᴰ.of_map (projected_point t) t.points place.1 in
      subst (Every (CandidateFacts t R)) (ap (find_candidates t.settings) stop.2 ∙ place.2) (candidate_facts stop.0 stop.1)

  search_facts : (slots : ℕ) (p : MeasuredPoint) → In p (leg_starts t) → (goal : ℕ) (bound : Float) (start : ℕ) → start < t.nodes → FoundFacts t R (bounded_astar slots (query_of (view t) (leg_of t p) goal bound) start)
  unfolding view query_of
  search_facts zero p m goal bound start h = rw no_slots tt
  search_facts (suc n) p m goal bound start h = go (bounded_astar (suc n) q start) refl
    where
      q : Query
      q = query_of (view t) (leg_of t p) goal bound

      fact : SearchBound q start (suc n)
      fact = search_theorem q start (suc n) (leg_ways t wf p goal bound) h (zero-lt-suc n)

      go : (f : SearchEnd) → bounded_astar (suc n) q start ≡ f → FoundFacts t R f
      go none_found e = tt
      go full e = tt
      go (found cost roads) e = record {
        few = fact.few cost roads e;
        cost = fact.cost cost roads e;
        roads = λ r j. let w = leads_in q start goal roads (fact.leads cost roads e) r j in law.ways p m w.0 r w.1;
      }

  middle_facts : (slots : ℕ) (p : MeasuredPoint) → In p (leg_starts t) → (start goal : ℕ) (bound : Float) → start < t.nodes → FoundFacts t R (middle_search (view t) (bounded_astar slots) (leg_of t p) start goal bound)
  unfolding middle_search
  middle_facts slots p m start goal bound h = either (FoundFacts t R) (eqb start goal) record { few = zero-le; cost = zero_amount; roads = λ r j. absurd (Memᴰ.not-nil j) } (search_facts slots p m goal bound start h)

  -- ---- full paths

  module _ (slots : ℕ) (P : PathResult → Type 0) (routes : RouteLaw t R P) where
    -- a law of what each leg finds, from one of paths
    pub legs_find : (leg : Leg) (xs ys : List Candidate) → In leg (view t).legs → In xs (candidates_of (view t)) → In ys (candidates_of (view t)) → Finds P (find_best_path leg.limits (middle_search (view t) (bounded_astar slots) leg) xs ys)
    unfolding view
    legs_find leg xs ys l m k =
        let p = Memᴰ.of_map (leg_of t) (leg_starts t) l in
        subst (λ (x : Leg). Finds P (find_best_path x.limits (middle_search (view t) (bounded_astar slots) x) xs ys)) p.2
        (leg_law P (FoundFacts t R) (leg_of t p.0).limits (middle_search (view t) (bounded_astar slots) (leg_of t p.0)) xs ys (gives p.0 p.1))
      where
        gives : (s : MeasuredPoint) → In s (leg_starts t) → (p : Pair) → In p.start xs → In p.end ys → Gives P (FoundFacts t R) (leg_of t s).limits (middle_search (view t) (bounded_astar slots) (leg_of t s)) p
        gives s n p i j =
            let a = view_facts xs m p.start i in
            let b = view_facts ys k p.end j in
            record {
              same_edge = routes.same_edge (leg_of t s).limits p a b;
              asks = λ bound. middle_facts slots s n p.start.road.target p.end.road.source bound (wf.roads p.start.road a.road).target;
              over = routes.over p a b;
            }

    -- a law of full paths, from one of paths
    pub path_law : (I : ℕ → FullPath → Type 0) → Kept P I → (k : FullPath) (c : EdgeCoverage) → outcome (view t) (bounded_astar slots) ≡ matched k c → Met I (length t.points) k c
    unfolding view
    path_law I kept k c e =
        let m = outcome_law P I kept (view t) (bounded_astar slots) legs_find k c e in
        record { legs = m.legs; few = le_trans m.few (le_trans (le_of_eq (length-map (leg_starts t) (leg_of t))) (length_front t.points)); holds = m.holds; primary = m.primary }

-- what holds of the roads written and of a leg's holds of them behind each other
pub append_every : (Q : Road → Type 0) (path rs : List Road) → Every Q path → Every Q rs → Every Q (append path rs)
unfolding append maybe
append_every Q path [] h k = h
append_every Q path (r ∷ rs) h k = every_append Q path h (go (last path))
  where
    go : (o : Option Road) → Every Q (maybe o (r ∷ rs) (λ x. cond (same_number x r) rs (r ∷ rs)))
    go none = k
    go (some x) = either (Every Q) (same_number x r) (λ y m. k y (Memᴰ.tail m)) k
