-- A walk takes no road twice, and only roads that a node without a choice forces. Such a node forces at most two, so a walk adds at most 2 N, and more turns give the same.
use Prim.Native.Nat.{ℕ, zero, suc, ◌+◌, ◌*◌, ◌≤◌, ◌<◌, zero-le}
use mathlib.Core.Path.{◌≡◌, refl, sym, subst}
use mathlib.Core.Logic.{inl, inr}
use mathlib.Core.Bool.{Bool, true, false, ◌&&◌, not, cond}
use mathlib.Core.Option.{Option, none, some, none-ne-some, some-injective}
use mathlib.Core.List.Memᴰ
use mathlib.Core.List.{List, [], ◌∷◌, ◌++◌}
use native.Mathlib.Nat.{le_trans, le_of_eq, zero-add}
use native.Mathlib.Omega.{arith}
use lib.Dec.{T, eqb, ltb, eqb→eq, ltb→lt, nltb→le}
use lib.ListN.{length, length-append, get_or-eq_default}
use lib.Ieee.{Float}
use lib.Ieee.Fits.{and_l, eq→eqb}
use lib.Ieee.Bits.{is_true}
use borrow.Author.Tests.{eq-eqb}
use Rattle.model.specs.Numbers.{◌<ᶠ◌}
use Rattle.model.specs.Lists.{In, filter, find, maybe}
use Rattle.model.specs.Sheet.{Sheet, road_at, numbers, list_at}
use Rattle.model.specs.Ends.{is_valid_node, way_on, way_back, forced_continuation, forced_predecessor, way, Walk, no_walk, with_road, meets, walked, walk, extension}
use Rattle.model.proofs.Members.{in_getD, any_of, keep_in, first_in, in_tab, tab_in}
use Rattle.bounds.specs.Amounts.{Amount}
use Rattle.bounds.specs.Formed.{Formed}
use Rattle.bounds.specs.Theorems.{Distinct, WalkTheorem}
use Rattle.bounds.proofs.Rank.{add_amount}
use Rattle.bounds.proofs.AmountLaws.{finite_amount, zero_amount}
use Rattle.bounds.proofs.Pigeon.{Other, pigeon, distinct_snoc, gather, in_gather, gather_length}
use Rattle.bounds.proofs.Few.{leaves, arrives, ins_few, outs_few}

-- a test that is passed gives what the search gave
passed : (b : Bool) (o : Option ℕ) (x : ℕ) → cond b none o ≡ some x → (b ≡ false) × (o ≡ some x)
passed true o x h = absurd (none-ne-some x h)
passed false o x h = (refl, h)

-- a road that is not met is none of those added
pub unmet : (x : ℕ) (path rs : List ℕ) → meets x (path ++ rs) ≡ false → Other x rs
unfolding meets
unmet x path rs h y m e = subst T h (any_of (λ r. eqb r x) (Memᴰ.append_right path m) (eq→eqb e))

-- a walk that ends is given as it is
walked_is : (w u : Walk) → walked w ≡ some u → w ≡ u
unfolding walked
walked_is w u h = go (eqb (length w.added) 0) h
  where
    go : (b : Bool) → cond b none (some w) ≡ some u → w ≡ u
    go true e = absurd (none-ne-some u e)
    go false e = some-injective w u e

module _ (t : Sheet) where
  -- ---- the roads that nodes without a choice force

  -- the roads out of a node, or into it
  abbrev touching : Bool → ℕ → List ℕ
  touching forward v = cond forward (filter (leaves t v) (numbers t)) (filter (arrives t v) (numbers t))

  abbrev forced : Bool → ℕ → List ℕ
  forced forward v = cond (is_valid_node t v) [] (touching forward v)

  forced_few : (forward : Bool) (v : ℕ) → length (forced forward v) ≤ 2
  forced_few forward v = go (is_valid_node t v) refl forward
    where
      go : (b : Bool) → is_valid_node t v ≡ b → (forward : Bool) → length (cond b [] (touching forward v)) ≤ 2
      go true e forward = zero-le
      go false e true = outs_few t v e
      go false e false = ins_few t v e

  abbrev all_forced : Bool → List ℕ
  all_forced forward = gather t.nodes (forced forward)

  all_few : (forward : Bool) → length (all_forced forward) ≤ 2 * t.nodes
  all_few forward = gather_length t.nodes (forced forward) (forced_few forward)

  all_forced_in : (forward : Bool) (v x : ℕ) → v < t.nodes → is_valid_node t v ≡ false → In x (touching forward v) → In x (all_forced forward)
  all_forced_in forward v x l e m = in_gather t.nodes (forced forward) v l (subst (λ (b : Bool). In x (cond b [] (touching forward v))) (sym e) m)

  -- a road's number is one of the sheet's
  is_number : (x : ℕ) → x < length t.roads → In x (numbers t)
  is_number x h = Memᴰ.cast (sym (zero-add x)) (tab_in (length t.roads) 0 (λ r. r) x h)

  module _ (f : Formed t) where
    -- only a node has a list
    listed_node : (v x : ℕ) → In x (list_at t v) → v < t.nodes
    listed_node v x m = go (ltb v t.nodes) (ltb→lt v t.nodes) (nltb→le v t.nodes)
      where
        go : (b : Bool) → (T b → v < t.nodes) → (T (not b) → t.nodes ≤ v) → v < t.nodes
        go true p q = p tt
        go false p q = absurd (Memᴰ.not-nil (subst (In x) (get_or-eq_default t.lists [] (le_trans (le_of_eq f.parts) (q tt))) m))

    -- A forced way is a road of the sheet, and one of those.
    pub record Forced (forward : Bool) (x : ℕ) : Type 0 where
      pub below : x < length t.roads
      pub among : In x (all_forced forward)

    on_forced : (y x : ℕ) → forced_continuation t y ≡ some x → Forced true x
    unfolding forced_continuation way_on
    on_forced y x h =
        let v = (road_at t y).target in
        let p = passed (is_valid_node t v) (find (λ z. not (eqb (road_at t z).target (road_at t y).source)) (list_at t v)) x h in
        let m = (first_in (λ z. not (eqb (road_at t z).target (road_at t y).source)) (list_at t v) x p.1).0 in
        let l = f.lists v x m in
        record { below = l.0; among = all_forced_in true v x (listed_node v x m) p.0 (keep_in (leaves t v) (numbers t) (is_number x l.0) (eq-eqb (road_at t x).source v l.1)) }

    back_forced : (y x : ℕ) → forced_predecessor t y ≡ some x → Forced false x
    unfolding forced_predecessor way_back
    back_forced y x h =
        let v = (road_at t y).source in
        let test : ℕ → Bool = λ z. eqb (road_at t z).target v && not (eqb (road_at t z).source (road_at t y).target) in
        let p = passed (is_valid_node t v) (find test (numbers t)) x h in
        let m = first_in test (numbers t) x p.1 in
        let k = in_tab (length t.roads) 0 (λ r. r) m.0 in
        let l : x < length t.roads = omega (arith, k.1, k.2) in
        let e = and_l (eqb (road_at t x).target v) (not (eqb (road_at t x).source (road_at t y).target)) m.1 in
        let into : v < t.nodes = subst (λ (i : ℕ). i < t.nodes) (eqb→eq (road_at t x).target v e) (f.roads (road_at t x) (in_getD t.roads x _ l)).target in
        record { below = l; among = all_forced_in false v x into p.0 (keep_in (arrives t v) (numbers t) m.0 (is_true (arrives t v x) e)) }

    pub way_forced : (forward : Bool) (y x : ℕ) → way t forward y ≡ some x → Forced forward x
    unfolding way
    way_forced true y x h = on_forced y x h
    way_forced false y x h = back_forced y x h

    -- ---- what a walk has added

    -- distinct forced roads, and an amount of metres
    pub record Trail (forward : Bool) (w : Walk) : Type 0 where
      pub distinct : Distinct w.added
      pub forced : (z : ℕ) → In z w.added → Forced forward z
      pub added_m : Amount w.added_m

    pub no_walk_trail : (forward : Bool) → Trail forward no_walk
    no_walk_trail forward = record { distinct = tt; forced = λ z m. absurd (Memᴰ.not-nil m); added_m = zero_amount }

    trail_road : (forward : Bool) (path : List ℕ) (r x : ℕ) (w : Walk) → Trail forward w → way t forward r ≡ some x → meets x (path ++ w.added) ≡ false → Trail forward (with_road t x w)
    trail_road forward path r x w k e h =
        let g = way_forced forward r x e in
        record {
          distinct = distinct_snoc w.added x k.distinct (unmet x path w.added h);
          forced = λ z m. elim (Memᴰ.append_cases w.added m) [ inl j ↦ k.forced z j | inr j ↦ subst (Forced forward) (sym (Memᴰ.eq_of_singleton j)) g ];
          added_m = add_amount w.added_m (road_at t x).length_m k.added_m (finite_amount (road_at t x).length_m (f.roads (road_at t x) (in_getD t.roads x _ g.below)).length_m);
        }

    -- distinct numbers among at most 2 N
    pub trail_few : (forward : Bool) (w : Walk) → Trail forward w → length w.added ≤ 2 * t.nodes
    trail_few forward w k = le_trans (pigeon w.added (all_forced forward) k.distinct (λ z m. (k.forced z m).among)) (all_few forward)

    module _ (forward : Bool) (cap : Float) (path : List ℕ) where
      -- one turn of a walk, with the rest of it
      abbrev turn : (ℕ → Walk → Option Walk) → Walk → ℕ → Option Walk
      turn rest w x = cond (meets x (path ++ w.added)) none (cond (cap <ᶠ (with_road t x w).added_m) none (rest x (with_road t x w)))

      -- what a walk gives is such a trail
      walk_trail : (k r : ℕ) (w u : Walk) → Trail forward w → walk k t forward cap path r w ≡ some u → Trail forward u
      unfolding walk maybe
      walk_trail zero r w u p h = absurd (none-ne-some u h)
      walk_trail (suc k) r w u p h = go (way t forward r) refl h (λ x v q e. walk_trail k x v u q e)
        where
          go : (o : Option ℕ) → way t forward r ≡ o → maybe o (walked w) (turn (walk k t forward cap path) w) ≡ some u
              → ((x : ℕ) (v : Walk) → Trail forward v → walk k t forward cap path x v ≡ some u → Trail forward u) → Trail forward u
          go none e h ih = subst (Trail forward) (walked_is w u h) p
          go (some x) e h ih = on (meets x (path ++ w.added)) refl (cap <ᶠ (with_road t x w).added_m) h
            where
              on : (b : Bool) → meets x (path ++ w.added) ≡ b → (c : Bool) → cond b none (cond c none (walk k t forward cap path x (with_road t x w))) ≡ some u → Trail forward u
              on true g c h = absurd (none-ne-some u h)
              on false g true h = absurd (none-ne-some u h)
              on false g false h = ih x (with_road t x w) (trail_road forward path r x w p e g) h

      -- two walks with more turns left than roads to add go alike
      walk_enough : (i j r : ℕ) (w : Walk) → Trail forward w → 2 * t.nodes < length w.added + i → 2 * t.nodes < length w.added + j
          → walk i t forward cap path r w ≡ walk j t forward cap path r w
      unfolding walk maybe
      walk_enough zero j r w p a b = absurd (omega (arith, trail_few forward w p))
      walk_enough (suc i) zero r w p a b = absurd (omega (arith, trail_few forward w p))
      walk_enough (suc i) (suc j) r w p a b = go (way t forward r) refl (walk_enough i j)
        where
          go : (o : Option ℕ) → way t forward r ≡ o
              → ((x : ℕ) (v : Walk) → Trail forward v → 2 * t.nodes < length v.added + i → 2 * t.nodes < length v.added + j → walk i t forward cap path x v ≡ walk j t forward cap path x v)
              → maybe o (walked w) (turn (walk i t forward cap path) w) ≡ maybe o (walked w) (turn (walk j t forward cap path) w)
          go none e ih = refl
          go (some x) e ih = on (meets x (path ++ w.added)) refl (cap <ᶠ (with_road t x w).added_m)
            where
              on : (b : Bool) → meets x (path ++ w.added) ≡ b → (c : Bool)
                  → cond b none (cond c none (walk i t forward cap path x (with_road t x w))) ≡ cond b none (cond c none (walk j t forward cap path x (with_road t x w)))
              on true g c = refl
              on false g true = refl
              on false g false = ih x (with_road t x w) (trail_road forward path r x w p e g) (omega (arith, length-append w.added (x ∷ []))) (omega (arith, length-append w.added (x ∷ [])))

      pub extension_trail : (r : ℕ) (w : Walk) → extension t forward cap path r ≡ some w → Trail forward w
      extension_trail r w h = walk_trail (suc (2 * t.nodes)) r no_walk w (no_walk_trail forward) h

-- the theorem of specs/Theorems.antt
pub walk_theorem : (t : Sheet) → Formed t → WalkTheorem t
walk_theorem t f forward cap path r = record {
  few = λ w h. trail_few t f forward w (extension_trail t f forward cap path r w h);
  distinct = λ w h. (extension_trail t f forward cap path r w h).distinct;
  added_m = λ w h. (extension_trail t f forward cap path r w h).added_m;
  enough = λ turns h. walk_enough t f forward cap path turns (suc (2 * t.nodes)) r no_walk (no_walk_trail t f forward) (omega arith) (omega arith);
}
