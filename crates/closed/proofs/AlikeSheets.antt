-- Demand 3 of parsed sheets. A road that a leg permits or a row names is not closed, so alike sheets have equal views and equal outcomes; and the roads of a path are the same on both.
use Prim.Native.Nat.{ℕ, ◌+◌, ◌≤◌, ◌<◌, min}
use mathlib.Core.Path.{◌≡◌, refl, sym, ap, ap₂, ◌∙◌, subst}
use mathlib.Core.Bool.{Bool, true, false, not, ◌||◌, cond}
use mathlib.Core.Option.{Option, none, some}
use mathlib.Core.List.{List, map}
use native.Mathlib.Omega.{arith}
use lib.Dec.{T, not_T, T_not, eqb, leb, ltb, eqb_refl, ltb→lt, leb→le}
use lib.ListN.{length, get_or}
use lib.Ieee.{Float}
use lib.Ieee.Bits.{is_true, is_false}
use lib.Ieee.Fits.{and_l, and_r}
use Rattle.model.specs.declared.Settings.{Settings}
use Rattle.model.specs.declared.Row.{Row}
use Rattle.model.specs.declared.Point.{Point}
use Rattle.model.specs.declared.Road.{Road}
use Rattle.model.specs.declared.AStarConstraints.{AStarConstraints}
use Rattle.model.specs.Numbers.{f0}
use Rattle.model.specs.Lists.{In, filter, any, all, init, head, last, pad, maybe}
use Rattle.model.specs.Sheet.{MeasuredPoint, Sheet, road_at, list_at, leaving_roads}
use Rattle.model.specs.View.{raised, limits_of, is_slip, permits, View, projection_of, projected_point, leg_of, leg_starts, distances_to, view}
use Rattle.model.specs.Search.{Search, bounded_astar}
use Rattle.model.specs.Legs.{EdgeCoverage}
use Rattle.model.specs.Decode.{FullPath, Outcome, outcome}
use Rattle.model.specs.Decode as outcomes
use Rattle.model.specs.Ends.{FinalPath, final_path_of, finalize_path, part_of, offset_fraction}
use Rattle.model.specs.Call.{Lists, Lent, Match, Decoded, written, match_of, answered, has_room, untouched, decode_by, decode_sheet}
use Rattle.model.specs.Call as call
use Rattle.model.proofs.Members.{all_at, any_of, keep_keep, in_keep, map_eq, keep_map, in_head, in_last, Every, every_map}
use Rattle.model.proofs.Judging.{all_of_at}
use Rattle.bounds.specs.Formed.{Formed}
use Rattle.bounds.proofs.PathRoads.{path_roads}
use Rattle.closed.specs.Closed.{exceeds, beyond_limit, beyond_every_limit, named, is_closed, SharedAnswer, refusal, match, shared_answer}

-- ---- alike sheets

unfoldable pub is_open : Sheet → ℕ → Bool
is_open t i = not (is_closed t i)

-- Every road of a that is not closed there is the same on b.
abbrev pub AgreeSheets : Sheet → Sheet → Type 0
AgreeSheets a b = (i : ℕ) → i < length a.roads → is_closed a i ≡ false → road_at a i ≡ road_at b i

-- What of alike sheets the proof uses.
pub record AlikeSheets (a b : Sheet) : Type 0 where
  pub kind : a.kind ≡ b.kind
  pub nodes : a.nodes ≡ b.nodes
  pub settings : a.settings ≡ b.settings
  pub points : a.points ≡ b.points
  pub goals : a.goals ≡ b.goals
  pub agree : AgreeSheets a b
  pub order : (v : ℕ) → filter (is_open a) (list_at a v) ≡ filter (is_open b) (list_at b v)

-- ---- one sheet

-- where the second of two fails, the first holds
or_not : (a b : Bool) → T (a || b) → T (not b) → T a
or_not true b t n = tt
or_not false true t n = absurd n
or_not false false t n = absurd t

-- a limit that is exceeded lets slip roads pass only
clash : (c : Settings) (p : Point) (r : Road) → T (permits (limits_of c p).constraints r) → T (exceeds c.frc_tolerance p.limit r.frc) → T (not (is_slip r)) → ⊥
unfolding permits limits_of raised exceeds
clash c p r t e n =
    let tolerance = c.frc_tolerance in
    let limit = p.limit in
    let limited : eqb limit 255 ≡ false = is_false (eqb limit 255) (and_l (not (eqb limit 255)) (ltb (limit + tolerance) r.frc) e) in
    let above : limit + tolerance < r.frc = ltb→lt (limit + tolerance) r.frc (and_r (not (eqb limit 255)) (ltb (limit + tolerance) r.frc) e) in
    let within : r.frc ≤ raised tolerance limit = leb→le r.frc (raised tolerance limit) (or_not (leb r.frc (raised tolerance limit)) (is_slip r) t n) in
    let capped : r.frc ≤ min 7 (limit + tolerance) = rw limited at within in
    omega arith

module _ (t : Sheet) where
  abbrev constraints : MeasuredPoint → AStarConstraints
  constraints p = (limits_of t.settings p.point).constraints

  module _ (i : ℕ) where
    -- what it means that road i is closed, test by test
    closed_away : T (is_closed t i) → T (not (is_slip (road_at t i)))
    unfolding is_closed
    closed_away c = subst T (sym (all_of_at _ (is_true (is_closed t i) c) 0)) tt

    closed_beyond : T (is_closed t i) → T (all (beyond_limit t i) (leg_starts t))
    unfolding is_closed beyond_every_limit
    closed_beyond c = subst T (sym (all_of_at _ (is_true (is_closed t i) c) 1)) tt

    closed_unnamed : T (is_closed t i) → T (not (named t i))
    unfolding is_closed
    closed_unnamed c = subst T (sym (all_of_at _ (is_true (is_closed t i) c) 2)) tt

    open_not_closed : T (is_open t i) → is_closed t i ≡ false
    unfolding is_open
    open_not_closed o = is_false (is_closed t i) o

  -- a road that a leg permits is not closed
  permitted_open : (p : MeasuredPoint) → In p (leg_starts t) → (i : ℕ) → T (permits (constraints p) (road_at t i)) → T (is_open t i)
  unfolding is_open
  permitted_open p m i h = not_T (is_closed t i) (λ c.
      clash t.settings p.point (road_at t i) h (all_at (beyond_limit t i) (closed_beyond i c) m) (closed_away i c))

  -- nor is one that a row names
  named_open : (p : MeasuredPoint) → In p t.points → (w : Row) → In w p.rows → T (is_open t w.road)
  unfolding named is_open
  named_open p m w n = not_T (is_closed t w.road) (λ c. T_not (named t w.road) (closed_unnamed w.road c)
      (any_of (λ q. any (λ v. eqb v.road w.road) q.rows) m (any_of (λ v. eqb v.road w.road) n (eqb_refl w.road))))

  -- a leg sees no closed road at a node
  leaving_open : (p : MeasuredPoint) → In p (leg_starts t) → (v : ℕ) → filter (permits (constraints p)) (leaving_roads t v) ≡ filter (permits (constraints p)) (map (road_at t) (filter (is_open t) (list_at t v)))
  leaving_open p m v =
      keep_map (road_at t) (permits (constraints p)) (list_at t v)
      ∙ ap (map (road_at t)) (keep_keep (λ i. permits (constraints p) (road_at t i)) (is_open t) (permitted_open p m) (list_at t v))
      ∙ sym (keep_map (road_at t) (permits (constraints p)) (filter (is_open t) (list_at t v)))

-- ---- the core of an answer, by the test of the areas and the outcome

abbrev shared_answer_of : Outcome → SharedAnswer
shared_answer_of (outcomes.refused n x y) = refusal n x y
shared_answer_of (outcomes.matched k c) = match k.total_length c.road.id c.coverage_m

shared_answered : (t : Sheet) (l : Lists) (o : Outcome) → shared_answer (answered t l o).answer ≡ shared_answer_of o
unfolding shared_answer answered match_of
shared_answered t l (outcomes.refused n x y) = refl
shared_answered t l (outcomes.matched k c) = refl

shared_decode : (t : Sheet) (lent : Lent) → shared_answer (decode_sheet t lent).answer ≡ cond (has_room (length t.points) t.nodes lent) (shared_answer_of (outcome (view t) (bounded_astar lent.heap))) (refusal 6 0 0)
unfolding decode_sheet decode_by untouched shared_answer
shared_decode t lent = go (has_room (length t.points) t.nodes lent)
  where
    go : (r : Bool) → shared_answer (cond r (answered t lent.lists (outcome (view t) (bounded_astar lent.heap))) (untouched 6 0 lent.lists)).answer ≡ cond r (shared_answer_of (outcome (view t) (bounded_astar lent.heap))) (refusal 6 0 0)
    go true = shared_answered t lent.lists (outcome (view t) (bounded_astar lent.heap))
    go false = refl

-- ---- two sheets

module _ (a b : Sheet) (form : Formed a) (h : AlikeSheets a b) where
  -- the views are equal
  roads_eq : (v : ℕ) → map (road_at a) (filter (is_open a) (list_at a v)) ≡ map (road_at b) (filter (is_open b) (list_at b v))
  roads_eq v =
      map_eq (road_at a) (road_at b) (filter (is_open a) (list_at a v))
      (λ i m. let k = in_keep (is_open a) (list_at a v) m in h.agree i (form.lists v i k.0).0 (open_not_closed a i k.1))
      ∙ ap (map (road_at b)) (h.order v)

  leaving_eq : (p : MeasuredPoint) → In p (leg_starts a) → (v : ℕ) → (leg_of a p).leaving v ≡ (leg_of b p).leaving v
  unfolding limits_of
  leaving_eq p m v =
      leaving_open a p m v
      ∙ ap₂ (λ (c : Settings) (rs : List Road). filter (permits (limits_of c p.point).constraints) rs) h.settings (roads_eq v)
      ∙ sym (leaving_open b p (subst (λ (ps : List MeasuredPoint). In p (init ps)) h.points m) v)

  leg_eq : (p : MeasuredPoint) → In p (leg_starts a) → leg_of a p ≡ leg_of b p
  leg_eq p m i = record { limits = limits_of (h.settings i) p.point; leaving = λ v. leaving_eq p m v i }

  -- the road that a row names is the same on both
  named_eq : (p : MeasuredPoint) → In p a.points → (w : Row) → In w p.rows → road_at a w.road ≡ road_at b w.road
  named_eq p m w n = h.agree w.road (form.rows p m w n).road (open_not_closed a w.road (named_open a p m w n))

  projected_point_eq : (p : MeasuredPoint) → In p a.points → projected_point a p ≡ projected_point b p
  projected_point_eq p m i = record { point = p.point; projections = map_eq (projection_of a) (projection_of b) p.rows (λ w n j. record { row = w; road = named_eq p m w n j }) i }

  pub view_eq : view a ≡ view b
  unfolding view
  view_eq i = record {
    kind = h.kind i;
    nodes = h.nodes i;
    settings = h.settings i;
    points = (map_eq (projected_point a) (projected_point b) a.points projected_point_eq ∙ ap (map (projected_point b)) h.points) i;
    legs = (map_eq (leg_of a) (leg_of b) (leg_starts a) leg_eq ∙ ap (λ (ps : List MeasuredPoint). map (leg_of b) (init ps)) h.points) i;
    to_goal = λ g v. get_or (distances_to (h.goals i) g) v f0;
  }

  outcome_eq : (search : Search) → outcome (view a) search ≡ outcome (view b) search
  outcome_eq search = ap (λ (v : View). outcome v search) view_eq

  has_room_eq : (lent : Lent) → has_room (length a.points) a.nodes lent ≡ has_room (length b.points) b.nodes lent
  has_room_eq lent = ap₂ (λ (ps : List MeasuredPoint) (n : ℕ). has_room (length ps) n lent) h.points h.nodes

  -- the first half of the demand
  pub same_shared : (lent : Lent) → shared_answer (decode_sheet a lent).answer ≡ shared_answer (decode_sheet b lent).answer
  same_shared lent =
      shared_decode a lent
      ∙ ap₂ (λ (r : Bool) (o : Outcome). cond r (shared_answer_of o) (refusal 6 0 0)) (has_room_eq lent) (outcome_eq (bounded_astar lent.heap))
      ∙ sym (shared_decode b lent)

  -- ---- a matched path

  -- road i is the same on both
  abbrev Same : ℕ → Type 0
  Same i = road_at a i ≡ road_at b i

  -- an open road's number finds the same road on both
  open_same : (i : ℕ) → i < length a.roads → T (is_open a i) → Same (road_at a i).number
  open_same i m o = subst Same (sym (form.numbered i m)) (h.agree i m (open_not_closed a i o))

  -- so the numbers of a matched path find the same roads
  path_same : (slots : ℕ) (k : FullPath) (c : EdgeCoverage) → outcome (view a) (bounded_astar slots) ≡ outcomes.matched k c → Every Same (final_path_of k).path
  unfolding view limits_of
  path_same slots k c e = every_map Same (λ (r : Road). r.number) k.roads (path_roads a form (λ (r : Road). Same r.number) record { rows = rows; ways = ways } slots k c e)
    where
      rows : (p : MeasuredPoint) → In p a.points → (w : Row) → In w p.rows → Same (road_at a w.road).number
      rows p m w n = open_same w.road (form.rows p m w n).road (named_open a p m w n)

      ways : (p : MeasuredPoint) → In p (leg_starts a) → (u : ℕ) (r : Road) → In r ((leg_of a p).leaving u) → Same r.number
      ways p m u r n =
          every_map (λ (r : Road). Same r.number) (road_at a) (filter (λ i. permits (constraints a p) (road_at a i)) (list_at a u)) (λ i j.
          let k = in_keep (λ i. permits (constraints a p) (road_at a i)) (list_at a u) j in
          open_same i (form.lists u i k.0).0 (permitted_open a p m i k.1))
          r (subst (In r) (keep_map (road_at a) (permits (constraints a p)) (list_at a u)) n)

  -- an answer reads the sheet only at the numbers of its path
  fraction_eq : (offset : Float) (path : List ℕ) (o : Option ℕ) → ((x : ℕ) → o ≡ some x → In x path) → Every Same path → offset_fraction a offset o ≡ offset_fraction b offset o
  unfolding offset_fraction maybe
  fraction_eq offset path none m s = refl
  fraction_eq offset path (some x) m s = ap (λ (r : Road). part_of offset r.length_m) (s x (m x refl))

  match_eq : (k : FullPath) (c : EdgeCoverage) (e : FinalPath) → Every Same e.path → match_of a k c e ≡ match_of b k c e
  unfolding match_of
  match_eq k c e s i = record {
    count = length e.path;
    length_m = k.total_length;
    start_offset = e.start_offset;
    start_fraction = fraction_eq e.start_offset e.path (head e.path) (in_head e.path) s i;
    end_offset = e.end_offset;
    end_fraction = fraction_eq e.end_offset e.path (last e.path) (in_last e.path) s i;
    primary = c.road.id;
    coverage = c.coverage_m;
  }

  written_eq : (path : List ℕ) (l : Lists) → Every Same path → written a path l ≡ written b path l
  unfolding written
  written_eq path l s i = record {
    ids = pad (length l.ids) 0 (map_eq (λ r. (road_at a r).id) (λ r. (road_at b r).id) path (λ x m j. (s x m j).id) i);
    lengths = pad (length l.lengths) f0 (map_eq (λ r. (road_at a r).length_m) (λ r. (road_at b r).length_m) path (λ x m j. (s x m j).length_m) i);
  }

  -- ---- the whole answer, where no end of a path moves on either sheet

  module _ (still-a : (k : FullPath) → finalize_path a k ≡ final_path_of k) (still-b : (k : FullPath) → finalize_path b k ≡ final_path_of k) where
    answered_eq : (slots : ℕ) (l : Lists) (o : Outcome) → outcome (view a) (bounded_astar slots) ≡ o → answered a l o ≡ answered b l o
    unfolding answered written
    answered_eq slots l (outcomes.refused n x y) e = refl
    answered_eq slots l (outcomes.matched k c) e =
        let same = path_same slots k c e in
        ap (from a) (still-a k)
        ∙ ap₂ (λ (m : Match) (w : Lists). record { answer = call.matched m; lists = w }) (match_eq k c (final_path_of k) same) (written_eq (final_path_of k).path l same)
        ∙ sym (ap (from b) (still-b k))
      where
        from : Sheet → FinalPath → Decoded
        from t e = record { answer = call.matched (match_of t k c e); lists = written t e.path l }

    -- the second half
    pub same_whole : (lent : Lent) → decode_sheet a lent ≡ decode_sheet b lent
    unfolding decode_sheet decode_by
    same_whole lent = ap₂ (λ (r : Bool) (d : Decoded). cond r d (untouched 6 0 lent.lists)) (has_room_eq lent)
        (answered_eq lent.heap lent.lists (outcome (view a) (bounded_astar lent.heap)) refl ∙ ap (answered b lent.lists) (outcome_eq (bounded_astar lent.heap)))
