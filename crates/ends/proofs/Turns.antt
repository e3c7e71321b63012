-- One turn of a walk, against the definition.
use Prim.Native.Nat.{ℕ, suc, ◌+◌, ◌-◌, ◌*◌, ◌≤◌, ◌<◌}
use native.Mathlib.Omega.{arith}
use native.Mathlib.Numerals.{add-one}
use mathlib.Core.Path.{◌≡◌, refl, sym, ap, subst, ◌∙◌}
use mathlib.Core.Logic.{inl, inr}
use mathlib.Core.Bool.{Bool, true, false, cond, ◌||◌}
use mathlib.Core.Option.{none, some}
use mathlib.Core.List.Memᴰ
use mathlib.Core.List.{List, [], ◌∷◌, ◌++◌}
use lib.Dec.{eqb}
use lib.ListN.{length, set, take, length-set, length-append}
use lib.Seq.{take-suc-set, length-take-le, get_or-set_same, get_or-set_other}
use lib.Ieee.{Float}
use borrow.Author.Tests.{eq-eqb, ne_eqb}
use Rattle.std.specs.List.{list_any}
use Rattle.model.specs.Numbers.{◌⊕◌, ◌<ᶠ◌, f0}
use Rattle.model.specs.Lists.{any, maybe}
use Rattle.model.specs.Sheet.{Sheet, road_at}
use Rattle.model.specs.Ends.{Walk, no_walk, with_road, meets, walked, way, walk, extension}
use Rattle.bounds.specs.Formed.{Formed}
use Rattle.bounds.proofs.AmountLaws.{zero_amount}
use Rattle.bounds.proofs.Choices.{below_or_not}
use Rattle.bounds.proofs.Pigeon.{Other, distinct_snoc}
use Rattle.bounds.proofs.WalkBound.{Forced, Trail, no_walk_trail, way_forced, trail_few}
use Rattle.bounds.proofs.WalkBound as WalkBound
use Rattle.search.specs.Answers.{RoadNumbers}
use Rattle.ends.specs.Post.{Added}

-- ---- whether a road is met again, among the path's or those added

contained : (x : ℕ) (xs : List ℕ) → list_any (λ y. eqb y x) xs ≡ meets x xs
unfolding meets any
contained x [] = refl
contained x (y ∷ ys) = ap (λ (b : Bool). eqb y x || b) (contained x ys)

met_either : (x : ℕ) (xs ys : List ℕ) → meets x (xs ++ ys) ≡ (meets x xs || meets x ys)
unfolding meets any
met_either x [] ys = refl
met_either x (y ∷ xs) ys = go (eqb y x) (met_either x xs ys)
  where
    go : (b : Bool) → meets x (xs ++ ys) ≡ (meets x xs || meets x ys) → (b || meets x (xs ++ ys)) ≡ ((b || meets x xs) || meets x ys)
    go true e = refl
    go false e = e

module _ (x : ℕ) (xs ys : List ℕ) {a : Bool} (p : a ≡ list_any (λ y. eqb y x) xs) where
  pub met_first : a ≡ true → meets x (xs ++ ys) ≡ true
  met_first q = met_either x xs ys ∙ rw (sym (contained x xs), sym p, q)

  module _ {b : Bool} (q : b ≡ list_any (λ y. eqb y x) ys) (r : a ≡ false) where
    met_second : meets x (xs ++ ys) ≡ b
    met_second = met_either x xs ys ∙ rw (sym (contained x xs), sym (contained x ys), sym p, sym q, r)

    pub met : b ≡ true → meets x (xs ++ ys) ≡ true
    met s = met_second ∙ s

    pub unmet : b ≡ false → meets x (xs ++ ys) ≡ false
    unmet s = met_second ∙ s

numbers_more : {e : ℕ} (ids : List ℕ) (end x : ℕ) → end < length ids → x < e → RoadNumbers e end ids → RoadNumbers e (end + 1) (set ids end x)
numbers_more {e} ids end x ln xe old i hi =
    elim (below_or_not i end) [
      | inl l ↦ rw (get_or-set_other ids end i x 0 (λ q. omega arith)) (old i l)
      | inr l ↦ let q : i ≡ end = omega arith in rw (q, get_or-set_same ids end x 0 ln) xe
    ]

-- ---- the definition, one turn

turn : (t : Sheet) (b : Bool) (cap : Float) (path : List ℕ) (r : ℕ) (w : Walk) {f g : ℕ} → f ≡ suc g
    → maybe (way t b r) (walked w) (λ x. cond (meets x (path ++ w.added)) none (cond (cap <ᶠ (with_road t x w).added_m) none (walk g t b cap path x (with_road t x w))))
    ≡ walk f t b cap path r w
unfolding walk
turn t b cap path r w h = simp h

-- ---- the loop

module _ (t : Sheet) (b : Bool) (cap : Float) (path : List ℕ) (e r : ℕ) where
  abbrev so_far : ℕ → List ℕ → Float → Walk
  so_far count room m = record { added = take count room; added_m = m }

  -- roads added, of no length: how many there are does not depend on it
  abbrev Trailed : List ℕ → Type 0
  Trailed xs = (f : Formed t) → Trail t f b (record { added = xs; added_m = f0 })

  pub record Walking (room : List ℕ) (cur count : ℕ) (m : Float) : Type 0 where
    pub few : count ≤ 2 * t.nodes
    pub fits : 2 * t.nodes ≤ length room
    pub road_in : cur < e
    pub numbers : RoadNumbers e count room
    pub trail : Trailed (take count room)
    pub same : walk (suc (2 * t.nodes) - count) t b cap path cur (so_far count room m) ≡ extension t b cap path r

  pub walking_start : (room : List ℕ) → 2 * t.nodes ≤ length room → r < e → Walking room r 0 f0
  walking_start room h k = record {
    few = omega arith;
    fits = h;
    road_in = k;
    numbers = λ i l. absurd (omega arith);
    trail = λ f. no_walk_trail t f b;
    same = ap (λ (f : ℕ). walk f t b cap path r no_walk) {x = suc (2 * t.nodes) - 0} {y = suc (2 * t.nodes)} (omega arith);
  }

  module _ {room : List ℕ} {cur count : ℕ} {m : Float} (a : Walking room cur count m) where
    -- the definition at this turn
    now_is :
        maybe (way t b cur) (walked (so_far count room m))
        (λ x. cond (meets x (path ++ take count room)) none (cond (cap <ᶠ (with_road t x (so_far count room m)).added_m) none (walk (2 * t.nodes - count) t b cap path x (with_road t x (so_far count room m)))))
        ≡ extension t b cap path r
    now_is = turn t b cap path cur (so_far count room m) (omega (arith, a.few)) ∙ a.same

    added_size : length (take count room) ≡ count
    added_size = length-take-le count room (omega (arith, a.few, a.fits))

    pub left_none : way t b cur ≡ none → count ≡ 0 → extension t b cap path r ≡ none
    unfolding maybe walked
    left_none h k =
        let z : eqb (length (take count room)) 0 ≡ true = eq-eqb (length (take count room)) 0 (omega (arith, added_size)) in
        sym now_is ∙ rw (h, z)

    -- the walk's answer
    pub kept : {n : ℕ} → t.nodes ≡ n → (count ≡ 0 → ⊥) → way t b cur ≡ none → Added (extension t b cap path r) n e room (record { count = count; metres = m })
    unfolding maybe walked
    kept q k h =
        let z : eqb (length (take count room)) 0 ≡ false = ne_eqb (length (take count room)) 0 (λ z. k (omega (arith, added_size))) in
        record {
          is = sym now_is ∙ rw (h, z);
          some_added = omega arith;
          few = omega (arith, a.few, q);
          numbers = a.numbers;
        }

    module _ {x : ℕ} (h : (way t b cur ≡ some x) × (x < e)) where
      pub met_again : meets x (path ++ take count room) ≡ true → extension t b cap path r ≡ none
      unfolding maybe
      met_again k = sym now_is ∙ rw (h.0, k)

      module _ (k : meets x (path ++ take count room) ≡ false) {d : Float} (g : d ≡ (road_at t x).length_m) where
        pub too_far : cap <ᶠ m ⊕ d ≡ true → extension t b cap path r ≡ none
        unfolding maybe
        too_far q = sym now_is ∙ rw (h.0, k, sym g, q)

        -- one road more: its trail is longer, so there is room for it
        longer : Trailed (take count room ++ x ∷ [])
        longer f =
            let o : Other x (take count room) = WalkBound.unmet x path (take count room) k in
            record {
              distinct = distinct_snoc (take count room) x (a.trail f).distinct o;
              forced = λ z m. elim (Memᴰ.append_cases (take count room) m) [ inl j ↦ (a.trail f).forced z j | inr j ↦ subst (Forced t f b) (sym (Memᴰ.eq_of_singleton j)) (way_forced t f b cur x h.0) ];
              added_m = zero_amount;
            }

        pub has_room : Formed t → count < 2 * t.nodes
        has_room f = omega (arith, trail_few t f b _ (longer f), length-append (take count room) (x ∷ []), added_size)

        pub walking_step : Formed t → cap <ᶠ m ⊕ d ≡ false → Walking (set room count x) x (count + 1) (m ⊕ d)
        unfolding maybe
        walking_step f q =
            let rm : count < 2 * t.nodes = has_room f in
            let ln : count < length room = omega (arith, rm, a.fits) in
            let more : take (count + 1) (set room count x) ≡ take count room ++ x ∷ [] = ap (λ (n : ℕ). take n (set room count x)) (add-one count) ∙ take-suc-set room count x ln in
            record {
              few = omega (arith, rm);
              fits = rw (length-set room count x) a.fits;
              road_in = h.1;
              numbers = numbers_more room count x ln h.1 a.numbers;
              trail = rw more longer;
              same =
                  rw (more, g)
                  (ap (λ (f : ℕ). walk f t b cap path x (with_road t x (so_far count room m))) {x = suc (2 * t.nodes) - (count + 1)} {y = 2 * t.nodes - count} (omega (arith, rm))
                  ∙ (rw (h.0, k, sym g, q, g) at now_is));
            }
