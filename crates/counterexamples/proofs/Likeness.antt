-- Likeness decided by computing: tests on the bytes of two sheets that make them alike by a rule of closing.
use Prim.Native.Nat.{ℕ, ◌+◌, ◌≤◌, ◌<◌}
use mathlib.Core.Path.{◌≡◌, refl, sym, ap, ap₂, ◌∙◌, subst}
use mathlib.Core.Bool.{Bool, true, false, not, ◌||◌, ◌&&◌}
use mathlib.Core.List.{List, [], ◌∷◌, map}
use native.Mathlib.Omega.{arith}
use lib.Dec.{T, eqb, leb, ltb, eqb→eq, leb→le, ltb→lt, nltb→le}
use lib.ListN.{get_or, get_or-eq_default}
use lib.Ieee.Fits.{and_l, and_r}
use Rattle.model.specs.Lists.{filter, all, tabulate}
use Rattle.model.specs.Layout.{counts_of, road_bytes}
use Rattle.model.specs.Candidates.{same_bytes}
use Rattle.model.specs.Sheet.{part, sheet_of, parsed}
use Rattle.model.proofs.Computes.{computes}
use Rattle.model.proofs.Members.{all_at, length_tab, getD_table, tab_in}
use Rattle.closed.specs.Closed.{exceeds, beyond_every_limit, named, Closing, is_closed, EqualParts, Agree, open_at, AlikeBy, shared_answer, no_zero_length}
use Rattle.counterexamples.specs.Needed.{AnyOrder, AnyBytes, AnyNumbers}
use Rattle.counterexamples.specs.PartsNeeded.{parts_of, others, AlikeBut}

-- ---- the roads

-- a test of bytes gives an equation
same-bytes→eq : (a b : List ℕ) → T (same_bytes a b) → a ≡ b
unfolding same_bytes
same-bytes→eq [] [] t = refl
same-bytes→eq [] (y ∷ ys) t = absurd t
same-bytes→eq (x ∷ xs) [] t = absurd t
same-bytes→eq (x ∷ xs) (y ∷ ys) t = ap₂ (λ (z : ℕ) (zs : List ℕ). z ∷ zs) (eqb→eq x y (and_l (eqb x y) (same_bytes xs ys) t)) (same-bytes→eq xs ys (and_r (eqb x y) (same_bytes xs ys) t))

-- the same for lists of byte lists
unfoldable pub same_all : List (List ℕ) → List (List ℕ) → Bool
same_all [] [] = true
same_all [] (y ∷ ys) = false
same_all (x ∷ xs) [] = false
same_all (x ∷ xs) (y ∷ ys) = same_bytes x y && same_all xs ys

same_all→eq : (a b : List (List ℕ)) → T (same_all a b) → a ≡ b
unfolding same_all
same_all→eq [] [] t = refl
same_all→eq [] (y ∷ ys) t = absurd t
same_all→eq (x ∷ xs) [] t = absurd t
same_all→eq (x ∷ xs) (y ∷ ys) t = ap₂ (λ (z : List ℕ) (zs : List (List ℕ)). z ∷ zs) (same-bytes→eq x y (and_l (same_bytes x y) (same_all xs ys) t)) (same_all→eq xs ys (and_r (same_bytes x y) (same_all xs ys) t))

-- a test of all numbers below n
abbrev pub below : ℕ → (ℕ → Bool) → Bool
below n p = all p (tabulate n 0 (λ i. i))

at_below : (n : ℕ) (p : ℕ → Bool) → T (below n p) → (i : ℕ) → i < n → T (p i)
at_below n p t i h = let e : 0 + i ≡ i = omega arith in subst (λ (k : ℕ). T (p k)) e (all_at p t (tab_in n 0 (λ i. i) i h))

module _ (closed : Closing) (x y : List ℕ) where
  -- road i is closed on x, or a road of y with the same bytes
  unfoldable pub agree_at : ℕ → Bool
  agree_at i = closed (parsed x) i || (ltb i (counts_of y).e && same_bytes (road_bytes x (counts_of x) i) (road_bytes y (counts_of y) i))

  -- a road that is not closed passes by the rest of its test
  past : (c b : Bool) → T (c || b) → c ≡ false → T b
  past true b t e = absurd (subst T e tt)
  past false b t e = t

  pub agree : T (below (counts_of x).e agree_at) → Agree closed x y
  unfolding agree_at
  agree t i h e =
      let near = ltb i (counts_of y).e in
      let same = same_bytes (road_bytes x (counts_of x) i) (road_bytes y (counts_of y) i) in
      let both = past (closed (parsed x) i) (near && same) (at_below (counts_of x).e agree_at t i h) e in
      (ltb→lt i (counts_of y).e (and_l near same both), same-bytes→eq _ _ (and_r near same both))

-- ---- the order at every node

-- past the nodes there are no lists
none_past : (closed : Closing) (x : List ℕ) (v : ℕ) → (counts_of x).n ≤ v → open_at closed x v ≡ []
unfolding filter sheet_of
none_past closed x v h = ap (filter (λ i. not (closed (parsed x) i))) (get_or-eq_default (parsed x).lists [] {n = v} (omega (arith, length_tab (counts_of x).n 0 (part x (counts_of x)))))

-- two functions of a node that are equal at n nodes and past them
module _ {A : Type 0} (n : ℕ) (f g : ℕ → List A) (e : tabulate n 0 f ≡ tabulate n 0 g) (past-nodes : (v : ℕ) → n ≤ v → f v ≡ g v) where
  each_node : (v : ℕ) → f v ≡ g v
  each_node v = by (ltb v n) refl
    where
      by : (b : Bool) → ltb v n ≡ b → f v ≡ g v
      by true t = let h = ltb→lt v n (subst T (sym t) tt) in sym (getD_table n f v [] h) ∙ ap (λ (l : List (List A)). get_or l v []) e ∙ getD_table n g v [] h
      by false t = past-nodes v (nltb→le v n (subst (λ (b : Bool). T (not b)) (sym t) tt))

-- the order is the same at n nodes, and neither sheet has more
module _ (closed : Closing) (x y : List ℕ) (n : ℕ) (most-x : (counts_of x).n ≤ n) (most-y : (counts_of y).n ≤ n) where
  pub order : T (same_all (tabulate n 0 (open_at closed x)) (tabulate n 0 (open_at closed y))) → (v : ℕ) → open_at closed x v ≡ open_at closed y v
  order o = each_node n (open_at closed x) (open_at closed y) (same_all→eq _ _ o) (λ v h. none_past closed x v (omega arith) ∙ sym (none_past closed y v (omega arith)))

-- ---- likeness

-- the parts, from the list of them
pub equal_parts : (x y : List ℕ) → T (same_all (parts_of x) (parts_of y)) → EqualParts x y
equal_parts x y t = record { kind = number 0; nodes = number 1; settings = place 2; points = place 3; rows = place 4; distances = place 5 }
  where
    place : (k : ℕ) → get_or (parts_of x) k [] ≡ get_or (parts_of y) k []
    place k = ap (λ (l : List (List ℕ)). get_or l k []) (same_all→eq (parts_of x) (parts_of y) t)

    number : (k : ℕ) → get_or (get_or (parts_of x) k []) 0 0 ≡ get_or (get_or (parts_of y) k []) 0 0
    number k = ap (λ (l : List ℕ). get_or l 0 0) (place k)

module _ (x y : List ℕ) (e : T (same_all (parts_of x) (parts_of y))) where
  fewer : (counts_of y).n ≤ (counts_of x).n
  fewer = omega (arith, (equal_parts x y e).nodes)

  pub alike_by : (closed : Closing) → T (below (counts_of x).e (agree_at closed x y)) → T (below (counts_of y).e (agree_at closed y x))
      → T (same_all (tabulate (counts_of x).n 0 (open_at closed x)) (tabulate (counts_of x).n 0 (open_at closed y))) → AlikeBy closed x y
  alike_by closed a b o = record { parts = equal_parts x y e; agree = agree closed x y a; agree_back = agree closed y x b; order = order closed x y (counts_of x).n (omega arith) fewer o }

  pub any_order : T (below (counts_of x).e (agree_at is_closed x y)) → T (below (counts_of y).e (agree_at is_closed y x)) → AnyOrder x y
  any_order a b = (equal_parts x y e, agree is_closed x y a, agree is_closed y x b)

  pub any_bytes : T (same_all (tabulate (counts_of x).n 0 (open_at is_closed x)) (tabulate (counts_of x).n 0 (open_at is_closed y))) → AnyBytes x y
  any_bytes o = (equal_parts x y e, order is_closed x y (counts_of x).n (omega arith) fewer o)

  -- the bytes of the roads that leave a node and are not closed
  abbrev bytes_at : List ℕ → ℕ → List (List ℕ)
  bytes_at s v = map (road_bytes s (counts_of s)) (open_at is_closed s v)

  bytes_past : (s : List ℕ) (v : ℕ) → (counts_of s).n ≤ v → bytes_at s v ≡ []
  bytes_past s v h = ap (map (road_bytes s (counts_of s))) (none_past is_closed s v h)

  pub any_numbers : tabulate (counts_of x).n 0 (bytes_at x) ≡ tabulate (counts_of x).n 0 (bytes_at y) → AnyNumbers x y
  any_numbers o = (equal_parts x y e, each_node (counts_of x).n (bytes_at x) (bytes_at y) o (λ v h. bytes_past x v h ∙ sym (bytes_past y v (omega (arith, fewer)))))

-- a part is left out, and there are up to n nodes
module _ (k n : ℕ) (x y : List ℕ) (most-x : T (leb (counts_of x).n n)) (most-y : T (leb (counts_of y).n n)) where
  pub alike_but : T (same_all (others k x) (others k y)) → T (below (counts_of x).e (agree_at is_closed x y)) → T (below (counts_of y).e (agree_at is_closed y x))
      → T (same_all (tabulate n 0 (open_at is_closed x)) (tabulate n 0 (open_at is_closed y))) → AlikeBut k x y
  alike_but e a b o = record { parts = same_all→eq _ _ e; agree = agree is_closed x y a; agree_back = agree is_closed y x b; order = order is_closed x y n (leb→le (counts_of x).n n most-x) (leb→le (counts_of y).n n most-y) o }

-- all that an example of it unfolds
unfoldable pub computes_likeness : Unit {0}
unfolding computes exceeds beyond_every_limit named is_closed shared_answer no_zero_length same_all agree_at
computes_likeness = tt
