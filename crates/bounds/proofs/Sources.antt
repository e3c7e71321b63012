-- Where the candidates of a point, the pairs of a leg and the roads that leave a node come from.
use Prim.Native.Nat.{ℕ}
use mathlib.Core.Path.{◌≡◌, refl, ap, ◌∙◌, subst}
use mathlib.Core.Logic.{inl, inr}
use mathlib.Core.Bool.{Bool, true, false}
use mathlib.Core.Option.{some, some-injective, none-ne-some}
use mathlib.Core.List.Memᴰ
use mathlib.Core.List.{List, [], ◌∷◌, map}
use lib.Dec.{T}
use lib.ListN.{take}
use Rattle.model.specs.declared.Settings.{Settings}
use Rattle.model.specs.declared.Road.{Road}
use Rattle.model.specs.Lists.{In, when, filter_map, sort}
use Rattle.model.specs.Sheet.{MeasuredPoint, Sheet, road_at, no_road, list_at, leaving_roads}
use Rattle.model.specs.View.{Projection, ProjectedPoint, projection_of, projected_point}
use Rattle.model.specs.Candidates.{Candidate, candidate_of, passes, candidate, better, find_candidates}
use Rattle.model.specs.Legs.{Pair, pair, pairs, leg_pairs}
use Rattle.model.proofs.Members.{here, in_getD, in_take, in_sort, in_collect}
use Rattle.bounds.specs.Formed.{Formed}

-- ---- candidates

-- what a test lets through passes it
pub when_some : {A : Type 0} (b : Bool) (x y : A) → when b x ≡ some y → T b × (x ≡ y)
unfolding when
when_some true x y e = (tt, some-injective x y e)
when_some false x y e = absurd (none-ne-some y e)

pub candidate_projection : (c : Settings) (p : ProjectedPoint) (x : Candidate) → In x (find_candidates c p) → (s : Projection) × In s p.projections × (candidate_of c p.point s ≡ x) × T (passes c x)
unfolding find_candidates candidate
candidate_projection c p x m =
    let made = filter_map (candidate c p.point) p.projections in
    let k = in_collect (candidate c p.point) p.projections (in_sort better made (in_take c.max_candidates (sort better made) m)) in
    let y = candidate_of c p.point k.0 in
    let w = when_some (passes c y) y x k.2 in
    (k.0, k.1, w.1, subst (λ (z : Candidate). T (passes c z)) w.1 w.0)

-- a candidate lies on the road of its projection
pub candidate_road : (c : Settings) (p : ProjectedPoint) (s : Projection) (x : Candidate) → candidate_of c p.point s ≡ x → s.road ≡ x.road
unfolding candidate_of
candidate_road c p s x e = ap (λ (z : Candidate). z.road) e

pub found_on_roads : {t : Sheet} → Formed t → (p : MeasuredPoint) → In p t.points → (c : Candidate) → In c (find_candidates t.settings (projected_point t p)) → In c.road t.roads
found_on_roads {t} f p m c k =
    let s = candidate_projection t.settings (projected_point t p) c k in
    let w = Memᴰ.of_map (projection_of t) p.rows s.1 in
    subst (λ (r : Road). In r t.roads) (ap (λ (x : Projection). x.road) w.2 ∙ candidate_road t.settings (projected_point t p) s.0 c s.2)
    (in_getD t.roads w.0.road no_road (f.rows p m w.0 w.1).road)

-- ---- pairs

in_pairs : {p : Pair} (xs ys : List Candidate) → In p (pairs xs ys) → In p.start xs × In p.end ys × (p ≡ pair p.start p.end)
unfolding pairs
in_pairs [] ys m = absurd (Memᴰ.not-nil m)
in_pairs {p} (x ∷ xs) ys m = elim (Memᴰ.append_cases (map (pair x) ys) m) [
  | inl k ↦ let j = Memᴰ.of_map (pair x) ys k in subst (λ (q : Pair). In q.start (x ∷ xs) × In q.end ys × (q ≡ pair q.start q.end)) j.2 (here, j.1, refl)
  | inr k ↦ let j = in_pairs xs ys k in (Memᴰ.tail j.0, j.1, j.2)
]

pub in_leg_pairs : {p : Pair} (xs ys : List Candidate) → In p (leg_pairs xs ys) → In p.start xs × In p.end ys × (p ≡ pair p.start p.end)
in_leg_pairs xs ys m = let k = in_pairs (take 10 xs) (take 10 ys) m in (in_take 10 xs k.0, in_take 10 ys k.1, k.2)

-- ---- roads

-- a road that leaves a node is a road of the sheet and starts there
pub leaving_road : {t : Sheet} → Formed t → (v : ℕ) (r : Road) → In r (leaving_roads t v) → In r t.roads × (r.source ≡ v)
leaving_road {t} f v r m =
    let k = Memᴰ.of_map (road_at t) (list_at t v) m in
    let h = f.lists v k.0 k.1 in
    subst (λ (x : Road). In x t.roads × (x.source ≡ v)) k.2 (in_getD t.roads k.0 no_road h.0, h.1)
