-- The heap is the front of a longer area: what sifting and sinking do to the area is, in its front, what they do to the front alone.
use mathlib.Core.Path.{◌≡◌, refl, sym, ap, ◌∙◌}
use mathlib.Core.List.{List, [], ◌∷◌, ◌++◌}
use mathlib.Core.Bool.{Bool, true, false, cond}
use Prim.Native.Nat.{ℕ, zero, suc, ◌+◌, ◌-◌, ◌*◌, ◌/◌, ◌<◌, ◌≤◌}
use native.Mathlib.Numerals.{add-one}
use native.Mathlib.Omega.{arith}
use lib.Dec.{T, eqb, ltb, eqb→eq, ltb→lt}
use lib.ListN.{length, get_or, set, take}
use lib.Seq.{length-take-le, take-suc, take-take, get_or-take, get_or-set_other, set-set, set_at}
use lib.Ieee.{Float}
use Rattle.model.specs.Numbers.{◌≤ᶠ◌}
use Rattle.model.specs.Heap.{sift_up, child, sink, push, pop}
use Rattle.model.proofs.Members.{in_getD}
use Rattle.bounds.proofs.HeapLaws.{child_range}
use Rattle.heap.specs.Keys.{Below, FrontBelow}

take_set : {A : Type 0} (n : ℕ) (xs : List A) (i : ℕ) (x : A) → take n (set xs i x) ≡ set (take n xs) i x
take_set zero xs i x = refl
take_set (suc n) [] i x = refl
take_set (suc n) (y ∷ xs) zero x = refl
take_set (suc n) (y ∷ xs) (suc i) x = ap (λ zs. y ∷ zs) (take_set n xs i x)

-- the entry at j moves to i
front_move : (n : ℕ) (o : List ℕ) (i j : ℕ) → j < n → take n (set o i (get_or o j 0)) ≡ set (take n o) i (get_or (take n o) j 0)
front_move n o i j h = rw (get_or-take n o j 0 h) (take_set n o i (get_or o j 0))

front_child : (key : ℕ → Float) (n : ℕ) (o : List ℕ) (left : ℕ) → left + 1 < n → child key (take n o) left ≡ child key o left
unfolding child
front_child key n o left h = rw (get_or-take n o (left + 1) 0 h, get_or-take n o left 0 (omega arith))

-- what f gives on each arm of a choice
pub on_arms : {A B : Type 0} (f : A → B) (b : Bool) {x y : A} {x' y' : B} → (T b → f x ≡ x') → f y ≡ y' → f (cond b x y) ≡ cond b x' y'
on_arms f true p q = p tt
on_arms f false p q = q

module _ (key : ℕ → Float) (e : ℕ) where
  -- the content of the hole does not count
  sift_up_hole : (k : ℕ) (o : List ℕ) (i x : ℕ) → sift_up k key e (set o i x) i ≡ sift_up k key e o i
  unfolding sift_up
  sift_up_hole zero o i x = set-set o i x e
  sift_up_hole (suc k) o zero x = set-set o zero x e
  sift_up_hole (suc k) o (suc i) x =
      let p = (suc i - 1) / 2 in
      let other : get_or (set o (suc i) x) p 0 ≡ get_or o p 0 = get_or-set_other o (suc i) p x 0 (λ q. omega arith) in
      rw (other, set-set o (suc i) x e, set-set o (suc i) x (get_or o p 0))

  front_sift_up : (n k : ℕ) (o : List ℕ) (i : ℕ) → i ≤ n → take n (sift_up k key e o i) ≡ sift_up k key e (take n o) i
  unfolding sift_up
  front_sift_up n zero o i h = take_set n o i e
  front_sift_up n (suc k) o zero h = take_set n o 0 e
  front_sift_up n (suc k) o (suc i) h =
      let p = (suc i - 1) / 2 in
      let x = get_or o p 0 in
      let put = take_set n o (suc i) e in
      rw (get_or-take n o p 0 (omega arith))
      (on_arms (take n) (eqb (suc i) 0) (λ _. put)
      (on_arms (take n) (key x ≤ᶠ key e) (λ _. put)
      (front_sift_up n k (set o (suc i) x) p (omega arith) ∙ ap (λ l. sift_up k key e l p) (take_set n o (suc i) x))))

  front_sink : (n k : ℕ) (o : List ℕ) (i : ℕ) → i ≤ n → take n (sink k key e n o i) ≡ sink k key e n (take n o) i
  unfolding sink
  front_sink n zero o i h = front_sift_up n i o i h
  front_sink n (suc k) o i h =
      let left = 2 * i + 1 in
      let c = child key o left in
      let range = child_range key o left in
      on_arms (take n) (ltb (left + 1) n)
      (λ t. let d = ltb→lt (left + 1) n t in
      rw (front_child key n o left d) (front_sink n k (set o i (get_or o c 0)) c (omega arith) ∙ ap (λ l. sink k key e n l c) (front_move n o i c (omega arith))))
      (on_arms (take n) (eqb (left + 1) n)
      (λ t. let d = eqb→eq (left + 1) n t in
      front_sift_up n left (set o i (get_or o left 0)) left (omega arith) ∙ ap (λ l. sift_up left key e l left) (front_move n o i left (omega arith)))
      (front_sift_up n i o i h))

-- one entry more
pub front_push : (key : ℕ → Float) (o o' : List ℕ) (len e : ℕ) → len < length o → o' ≡ sift_up len key e o len → take (len + 1) o' ≡ push key (take len o) e
front_push key o o' len e h q =
    let n : length (take len o) ≡ len = length-take-le len o (omega arith) in
    let hole : set (take (len + 1) o) len e ≡ take len o ++ e ∷ [] = rw (add-one, take-suc o len 0) (set_at (take len o) (get_or o len 0) [] e len n) in
    rw (q, n, ← hole) (front_sift_up key e (len + 1) len o len (omega arith) ∙ sym (sift_up_hole key e len (take (len + 1) o) len e))

-- one entry fewer
pub front_pop : (key : ℕ → Float) (o o' : List ℕ) (len : ℕ) → 0 < len → len ≤ length o → o' ≡ sink (len - 1) key (get_or o (len - 1) 0) (len - 1) o 0
    → take (len - 1) o' ≡ pop key (take len o)
unfolding pop
front_pop key o o' len p h q =
    rw (q, length-take-le len o h, get_or-take len o (len - 1) 0 (omega arith), take-take (len - 1) len o (omega arith)) (front_sink key (get_or o (len - 1) 0) (len - 1) (len - 1) o 0 (omega arith))

-- no entry is below m but those in the front
pub below_front : (o : List ℕ) (len m : ℕ) → len ≤ length o → Below (take len o) m → FrontBelow o len m
below_front o len m h a j b =
    let size = length-take-le len o h in
    rw (get_or-take len o j 0 b) at (a (get_or (take len o) j 0) (in_getD (take len o) j 0 (omega arith)))

pub pop_none : (key : ℕ → Float) → pop key [] ≡ []
unfolding pop sink sift_up
pop_none key = refl
