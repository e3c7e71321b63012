-- Neighbours among which nothing settles the node are few and plain. Roads met later never undo a choice, so they were so before each road too.
use Prim.Native.Nat.{ℕ, ◌≤◌}
use mathlib.Core.Path.{◌≡◌}
use mathlib.Core.Bool.{Bool, true, false, ◌||◌, cond}
use mathlib.Core.List.Memᴰ
use mathlib.Core.List.{List, [], ◌∷◌}
use native.Mathlib.Omega.{arith}
use lib.Dec.{T, not_T, eqb, ltb, nltb→le}
use lib.ListN.{length}
use lib.Ieee.Fits.{eq→eqb}
use borrow.Author.Tests.{ne_eqb, le-ltb, ltb-true, ltb-false}
use Rattle.model.specs.declared.Neighbour.{Neighbour}
use Rattle.model.specs.declared.Road.{Road}
use Rattle.model.specs.Lists.{any, fold}
use Rattle.model.specs.Sheet.{Sheet, road_at}
use Rattle.model.specs.Ends.{grown, note, meet_road, is_choice}
use Rattle.model.proofs.Members.{or_l, or_r, here, any_of, Every, every_none, every_cons}
use Rattle.road_network.specs.Neighbours.{is_second, new_neighbour}

module _ (v : ℕ) where
  -- ---- one neighbour

  -- No choice: at most one road each way, and not the node itself.
  pub record Plain (x : Neighbour) : Type 0 where
    pub few_in : x.ins ≤ 1
    pub few_out : x.outs ≤ 1
    pub other : x.node ≡ v → ⊥

  pub plain_no : {x : Neighbour} → Plain x → is_choice v x ≡ false
  plain_no {x} p = rw (le-ltb 1 x.ins p.few_in, le-ltb 1 x.outs p.few_out) (ne_eqb x.node v p.other)

  plain_of : (x : Neighbour) → (T (is_choice v x) → ⊥) → Plain x
  plain_of x h =
      let in_twice = ltb 1 x.ins in
      let out-twice = ltb 1 x.outs in
      let itself = eqb x.node v in
      record {
        few_in = nltb→le 1 x.ins (not_T in_twice (λ t. h (or_l in_twice (out-twice || itself) t)));
        few_out = nltb→le 1 x.outs (not_T out-twice (λ t. h (or_r in_twice (out-twice || itself) (or_l out-twice itself t))));
        other = λ e. h (or_r in_twice (out-twice || itself) (or_r out-twice itself (eq→eqb e)));
      }

  pub new_neighbour_plain : (u : ℕ) (inward : Bool) → (u ≡ v → ⊥) → Plain (new_neighbour u inward)
  unfolding grown
  new_neighbour_plain u true h = record { few_in = omega arith; few_out = omega arith; other = h }
  new_neighbour_plain u false h = record { few_in = omega arith; few_out = omega arith; other = h }

  pub grown_plain : (inward : Bool) (x : Neighbour) → is_second inward x ≡ false → Plain x → Plain (grown inward x)
  unfolding grown is_second
  grown_plain true x e p = record { few_in = omega (arith, ltb-false 0 x.ins e); few_out = p.few_out; other = p.other }
  grown_plain false x e p = record { few_in = p.few_in; few_out = omega (arith, ltb-false 0 x.outs e); other = p.other }

  -- a second road one way is a choice
  pub second_choice : (inward : Bool) (x : Neighbour) → is_second inward x ≡ true → Plain (grown inward x) → ⊥
  unfolding grown is_second
  second_choice true x e p = omega (arith, ltb-true 0 x.ins e, p.few_in)
  second_choice false x e p = omega (arith, ltb-true 0 x.outs e, p.few_out)

  before_plain : (inward : Bool) (x : Neighbour) → Plain (grown inward x) → Plain x
  unfolding grown
  before_plain true x p = record { few_in = omega (arith, p.few_in); few_out = p.few_out; other = p.other }
  before_plain false x p = record { few_in = p.few_in; few_out = omega (arith, p.few_out); other = p.other }

  -- ---- the list of neighbours

  -- Nothing settles the node.
  pub record Open (xs : List Neighbour) : Type 0 where
    pub few : length xs ≤ 2
    pub plain : Every Plain xs

  pub open_of : (xs : List Neighbour) → length xs ≤ 2 → (T (any (is_choice v) xs) → ⊥) → Open xs
  open_of xs few no-choice = record { few = few; plain = λ x m. plain_of x (λ t. no-choice (any_of (is_choice v) m t)) }

  longer : (u : ℕ) (inward : Bool) (xs : List Neighbour) → length xs ≤ length (note u inward xs)
  unfolding note
  longer u inward [] = omega arith
  longer u inward (x ∷ xs) = go (eqb x.node u) (longer u inward xs)
    where
      go : (b : Bool) → length xs ≤ length (note u inward xs) → length (x ∷ xs) ≤ length (cond b (grown inward x ∷ xs) (x ∷ note u inward xs))
      go true ih = omega arith
      go false ih = omega arith

  plain_before : (u : ℕ) (inward : Bool) (xs : List Neighbour) → Every Plain (note u inward xs) → Every Plain xs
  unfolding note
  plain_before u inward [] h = every_none Plain
  plain_before u inward (x ∷ xs) h = go (eqb x.node u) h (plain_before u inward xs)
    where
      go : (b : Bool) → Every Plain (cond b (grown inward x ∷ xs) (x ∷ note u inward xs)) → (Every Plain (note u inward xs) → Every Plain xs) → Every Plain (x ∷ xs)
      go true k ih = every_cons Plain (before_plain inward x (k _ here)) (λ y m. k y (Memᴰ.tail m))
      go false k ih = every_cons Plain (k x here) (ih (λ y m. k y (Memᴰ.tail m)))

  open_before : (u : ℕ) (inward : Bool) (xs : List Neighbour) → Open (note u inward xs) → Open xs
  open_before u inward xs o = record { few = omega (arith, longer u inward xs, o.few); plain = plain_before u inward xs o.plain }

  -- open after a road, open before it
  open_road : (xs : List Neighbour) (r : Road) → Open (meet_road v xs r) → Open xs
  unfolding meet_road
  open_road xs r o = go (eqb r.target v) (eqb r.source v) o
    where
      go : (a b : Bool) → Open (cond a (note r.source true xs) (cond b (note r.target false xs) xs)) → Open xs
      go true b k = open_before r.source true xs k
      go false true k = open_before r.target false xs k
      go false false k = k

  pub open_fold : (t : Sheet) (rs : List ℕ) (xs : List Neighbour) → Open (fold (λ ys r. meet_road v ys (road_at t r)) xs rs) → Open xs
  unfolding fold
  open_fold t [] xs o = o
  open_fold t (r ∷ rs) xs o = open_road xs (road_at t r) (open_fold t rs (meet_road v xs (road_at t r)) o)
