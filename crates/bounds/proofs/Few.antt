-- A node without a choice has at most two roads out and two in: each is counted at one of its two neighbours, and at each at most one either way.
use Prim.Native.Nat.{ℕ, ◌+◌, ◌≤◌}
use mathlib.Core.Path.{◌≡◌, refl, sym, ap, ◌∙◌, subst}
use mathlib.Core.Logic.{inl, inr}
use mathlib.Core.Bool.{Bool, true, false, ◌||◌, ◌&&◌, not, cond}
use mathlib.Core.List.Memᴰ
use mathlib.Core.List.{List, [], ◌∷◌}
use native.Mathlib.Omega.{arith}
use lib.Dec.{T, T_not, not_T, eqb, ltb, eqb→eq, nltb→le}
use lib.ListN.{length}
use lib.Ieee.Fits.{and_l, and_r, eq→eqb}
use borrow.Author.Tests.{eqb-true, not-false}
use Rattle.model.specs.declared.Neighbour.{Neighbour}
use Rattle.model.specs.Lists.{In, cons_if, any, filter, fold}
use Rattle.model.specs.Sheet.{Sheet, road_at, numbers}
use Rattle.model.specs.Ends.{grown, note, meet_road, around, ins_of, outs_of, is_choice, passes_through, is_valid_node}
use Rattle.model.proofs.Members.{or_l, or_r, here, any_of}

-- ---- what a road more counts

ins_note : (v : ℕ) (inward : Bool) (xs : List Neighbour) → ins_of (note v inward xs) ≡ ins_of xs + cond inward 1 0
unfolding note ins_of grown
ins_note v true [] = refl
ins_note v false [] = refl
ins_note v inward (x ∷ xs) = go (eqb x.node v) inward (ins_note v inward xs)
  where
    go : (b i : Bool) → ins_of (note v i xs) ≡ ins_of xs + cond i 1 0 → ins_of (cond b (grown i x ∷ xs) (x ∷ note v i xs)) ≡ ins_of (x ∷ xs) + cond i 1 0
    go true true ih = omega arith
    go true false ih = omega arith
    go false i ih = omega (arith, ih)

outs_note : (v : ℕ) (inward : Bool) (xs : List Neighbour) → outs_of (note v inward xs) ≡ outs_of xs + cond inward 0 1
unfolding note outs_of grown
outs_note v true [] = refl
outs_note v false [] = refl
outs_note v inward (x ∷ xs) = go (eqb x.node v) inward (outs_note v inward xs)
  where
    go : (b i : Bool) → outs_of (note v i xs) ≡ outs_of xs + cond i 0 1 → outs_of (cond b (grown i x ∷ xs) (x ∷ note v i xs)) ≡ outs_of (x ∷ xs) + cond i 0 1
    go true true ih = omega arith
    go true false ih = omega arith
    go false i ih = omega (arith, ih)

module _ (n : ℕ) where
  -- ---- a self-loop makes the node its own neighbour for good

  abbrev pub Own : List Neighbour → Type 0
  Own xs = (x : Neighbour) × In x xs × (x.node ≡ n)

  note_own : (v : ℕ) (inward : Bool) (xs : List Neighbour) → Own xs → Own (note v inward xs)
  unfolding note grown
  note_own v inward [] o = absurd (Memᴰ.not-nil o.1)
  note_own v inward (x ∷ xs) o = go (eqb x.node v) (note_own v inward xs)
    where
      later : {y : Neighbour} {ys : List Neighbour} → Own ys → Own (y ∷ ys)
      later k = (k.0, Memᴰ.tail k.1, k.2)

      go : (b : Bool) → (Own xs → Own (note v inward xs)) → Own (cond b (grown inward x ∷ xs) (x ∷ note v inward xs))
      go true ih = elim (Memᴰ.cases_cons o.1) [ inl e ↦ (grown inward x, here, sym (ap (λ (y : Neighbour). y.node) e) ∙ o.2) | inr m ↦ later (o.0, m, o.2) ]
      go false ih = elim (Memᴰ.cases_cons o.1) [ inl e ↦ (x, here, sym (ap (λ (y : Neighbour). y.node) e) ∙ o.2) | inr m ↦ later (ih (o.0, m, o.2)) ]

  pub note_self : (v : ℕ) (inward : Bool) (xs : List Neighbour) → v ≡ n → Own (note v inward xs)
  unfolding note grown
  note_self v inward [] e = (grown inward (record { node = v; ins = 0; outs = 0 }), here, e)
  note_self v inward (x ∷ xs) e = go (eqb x.node v) refl (note_self v inward xs e)
    where
      go : (b : Bool) → eqb x.node v ≡ b → Own (note v inward xs) → Own (cond b (grown inward x ∷ xs) (x ∷ note v inward xs))
      go true f o = (grown inward x, here, eqb-true x.node v f ∙ e)
      go false f o = (o.0, Memᴰ.tail o.1, o.2)

  own_choice : {xs : List Neighbour} → Own xs → T (any (is_choice n) xs)
  own_choice o = let x = o.0 in any_of (is_choice n) o.1 (or_r (ltb 1 x.ins) (ltb 1 x.outs || eqb x.node n) (or_r (ltb 1 x.outs) (eqb x.node n) (eq→eqb o.2)))

  -- ---- without a choice, at most one road each way to each neighbour

  few_ins : (xs : List Neighbour) → T (not (any (is_choice n) xs)) → ins_of xs ≤ length xs
  unfolding any ins_of
  few_ins [] h = omega arith
  few_ins (x ∷ xs) h =
      let one : x.ins ≤ 1 = nltb→le 1 x.ins (not_T (ltb 1 x.ins) (λ t. T_not (any (is_choice n) (x ∷ xs)) h (or_l (is_choice n x) (any (is_choice n) xs) (or_l (ltb 1 x.ins) (ltb 1 x.outs || eqb x.node n) t)))) in
      omega (arith, few_ins xs (not_T (any (is_choice n) xs) (λ t. T_not (any (is_choice n) (x ∷ xs)) h (or_r (is_choice n x) (any (is_choice n) xs) t))))

  few_outs : (xs : List Neighbour) → T (not (any (is_choice n) xs)) → outs_of xs ≤ length xs
  unfolding any outs_of
  few_outs [] h = omega arith
  few_outs (x ∷ xs) h =
      let one : x.outs ≤ 1 = nltb→le 1 x.outs (not_T (ltb 1 x.outs) (λ t. T_not (any (is_choice n) (x ∷ xs)) h (or_l (is_choice n x) (any (is_choice n) xs) (or_r (ltb 1 x.ins) (ltb 1 x.outs || eqb x.node n) (or_l (ltb 1 x.outs) (eqb x.node n) t))))) in
      omega (arith, few_outs xs (not_T (any (is_choice n) xs) (λ t. T_not (any (is_choice n) (x ∷ xs)) h (or_r (is_choice n x) (any (is_choice n) xs) t))))

-- ---- over all roads

module _ (t : Sheet) (n : ℕ) where
  -- the roads out of the node and those into it; the neighbours after some roads more
  abbrev pub leaves : ℕ → Bool
  leaves r = eqb (road_at t r).source n

  abbrev pub arrives : ℕ → Bool
  arrives r = eqb (road_at t r).target n

  abbrev after : List Neighbour → List ℕ → List Neighbour
  after xs rs = fold (λ ys r. meet_road n ys (road_at t r)) xs rs

  fold_own : (rs : List ℕ) (xs : List Neighbour) → Own n xs → Own n (after xs rs)
  unfolding fold meet_road
  fold_own [] xs o = o
  fold_own (r ∷ rs) xs o = fold_own rs (meet_road n xs (road_at t r)) (go (eqb (road_at t r).target n) (eqb (road_at t r).source n))
    where
      go : (a b : Bool) → Own n (cond a (note (road_at t r).source true xs) (cond b (note (road_at t r).target false xs) xs))
      go true b = note_own n (road_at t r).source true xs o
      go false true = note_own n (road_at t r).target false xs o
      go false false = o

  -- each road in is counted
  counted_in : (rs : List ℕ) (xs : List Neighbour) → ins_of xs + length (filter arrives rs) ≤ ins_of (after xs rs)
  unfolding fold filter cons_if meet_road
  counted_in [] xs = omega arith
  counted_in (r ∷ rs) xs = go (eqb (road_at t r).target n) (eqb (road_at t r).source n) (counted_in rs)
    where
      go : (a b : Bool) → ((ys : List Neighbour) → ins_of ys + length (filter arrives rs) ≤ ins_of (after ys rs))
          → ins_of xs + length (cons_if a r (filter arrives rs)) ≤ ins_of (after (cond a (note (road_at t r).source true xs) (cond b (note (road_at t r).target false xs) xs)) rs)
      go true b ih = omega (arith, ih (note (road_at t r).source true xs), ins_note (road_at t r).source true xs)
      go false true ih = omega (arith, ih (note (road_at t r).target false xs), ins_note (road_at t r).target false xs)
      go false false ih = ih xs

  -- each road out is counted, unless the node is its own neighbour
  counted_out : (rs : List ℕ) (xs : List Neighbour) → (Own n (after xs rs) → ⊥) → outs_of xs + length (filter leaves rs) ≤ outs_of (after xs rs)
  unfolding fold filter cons_if meet_road
  counted_out [] xs h = omega arith
  counted_out (r ∷ rs) xs h = go (eqb (road_at t r).target n) (eqb (road_at t r).source n) refl (counted_out rs) h
    where
      go : (a b : Bool) → eqb (road_at t r).source n ≡ b → ((ys : List Neighbour) → (Own n (after ys rs) → ⊥) → outs_of ys + length (filter leaves rs) ≤ outs_of (after ys rs))
          → (Own n (after (cond a (note (road_at t r).source true xs) (cond b (note (road_at t r).target false xs) xs)) rs) → ⊥)
          → outs_of xs + length (cons_if b r (filter leaves rs)) ≤ outs_of (after (cond a (note (road_at t r).source true xs) (cond b (note (road_at t r).target false xs) xs)) rs)
      go true true e ih k = absurd (k (fold_own rs (note (road_at t r).source true xs) (note_self n (road_at t r).source true xs (eqb-true (road_at t r).source n e))))
      go true false e ih k = omega (arith, ih (note (road_at t r).source true xs) k, outs_note (road_at t r).source true xs)
      go false true e ih k = omega (arith, ih (note (road_at t r).target false xs) k, outs_note (road_at t r).target false xs)
      go false false e ih k = ih xs k

  -- ---- a node without a choice

  -- two neighbours and none of them a choice
  pub record Through : Type 0 where
    pub two : length (around t n) ≡ 2
    pub plain : T (not (any (is_choice n) (around t n)))

  pub through : is_valid_node t n ≡ false → Through
  unfolding is_valid_node passes_through
  through h =
      let xs = around t n in
      let a = eqb (length xs) 2 in
      let b = eqb (ins_of xs) (outs_of xs) in
      let c = not (any (is_choice n) xs) in
      let p : T (a && (b && c)) = subst T (sym (not-false (passes_through n xs) h)) tt in
      record { two = eqb→eq (length xs) 2 (and_l a (b && c) p); plain = and_r b c (and_r a (b && c) p) }

  -- at most two roads in, and two out
  pub ins_few : is_valid_node t n ≡ false → length (filter arrives (numbers t)) ≤ 2
  unfolding around ins_of
  ins_few h = let k = through h in omega (arith, counted_in (numbers t) [], few_ins n (around t n) k.plain, k.two)

  pub outs_few : is_valid_node t n ≡ false → length (filter leaves (numbers t)) ≤ 2
  unfolding around outs_of
  outs_few h =
      let k = through h in
      omega (arith, counted_out (numbers t) [] (λ o. T_not (any (is_choice n) (around t n)) k.plain (own_choice n o)), few_outs n (around t n) k.plain, k.two)
