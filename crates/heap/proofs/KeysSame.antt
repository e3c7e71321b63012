-- Keys that agree on the entries of a heap give the same heap: no other key is read.
use Prim.Native.Nat.{ℕ, zero, suc, ◌+◌, ◌-◌, ◌*◌, ◌/◌, ◌<◌, ◌≤◌}
use mathlib.Core.Path.{◌≡◌, refl, ap₂}
use mathlib.Core.List.Memᴰ
use mathlib.Core.List.{List, [], ◌∷◌, ◌++◌}
use native.Mathlib.Omega.{arith}
use lib.Dec.{eqb, ltb, eqb→eq, ltb→lt}
use lib.ListN.{length, get_or, set, take, length-append, length-set}
use lib.Seq.{length-take-le}
use lib.Ieee.{Float}
use Rattle.model.specs.Numbers.{◌≤ᶠ◌}
use Rattle.model.specs.Lists.{In}
use Rattle.model.specs.Heap.{sift_up, child, sink, push, pop}
use Rattle.model.proofs.Members.{here, in_getD, in_take, Every, every_set, every_snoc}
use Rattle.bounds.proofs.HeapLaws.{child_range}
use Rattle.heap.proofs.Fronts.{on_arms}

module _ (key key' : ℕ → Float) where
  abbrev Same : ℕ → Type 0
  Same k = key k ≡ key' k

  same_at : (h : List ℕ) (j : ℕ) → j < length h → Every Same h → Same (get_or h j 0)
  same_at h j b a = a (get_or h j 0) (in_getD h j 0 b)

  same_test : (x y : ℕ) → Same x → Same y → (key x ≤ᶠ key y) ≡ (key' x ≤ᶠ key' y)
  same_test x y p q = ap₂ (λ u v. u ≤ᶠ v) p q

  -- the entry at j moves to i
  same_move : (h : List ℕ) (i j : ℕ) → j < length h → Every Same h → Every Same (set h i (get_or h j 0))
  same_move h i j b a = every_set Same h i (get_or h j 0) a (same_at h j b a)

  sift_up_same : (e : ℕ) → Same e → (k : ℕ) (h : List ℕ) (i : ℕ) → i ≤ length h → Every Same h → sift_up k key e h i ≡ sift_up k key' e h i
  unfolding sift_up
  sift_up_same e s zero h i b a = refl
  sift_up_same e s (suc k) h zero b a = refl
  sift_up_same e s (suc k) h (suc i) b a =
      let p = (suc i - 1) / 2 in
      let x = get_or h p 0 in
      let inside : p < length h = omega arith in
      let size = length-set h (suc i) x in
      on_arms (λ l. l) (eqb (suc i) 0) (λ _. refl)
      (rw (same_test x e (same_at h p inside a) s)
      (on_arms (λ l. l) (key' x ≤ᶠ key' e) (λ _. refl) (sift_up_same e s k (set h (suc i) x) p (omega arith) (same_move h (suc i) p inside a))))

  child_same : (h : List ℕ) (left : ℕ) → left + 1 < length h → Every Same h → child key h left ≡ child key' h left
  unfolding child
  child_same h left b a = rw (same_test (get_or h (left + 1) 0) (get_or h left 0) (same_at h (left + 1) b a) (same_at h left (omega arith) a))

  sink_same : (e : ℕ) → Same e → (k end : ℕ) (h : List ℕ) (i : ℕ) → end ≤ length h → i ≤ length h → Every Same h → sink k key e end h i ≡ sink k key' e end h i
  unfolding sink
  sink_same e s zero end h i n b a = sift_up_same e s i h i b a
  sink_same e s (suc k) end h i n b a =
      let left = 2 * i + 1 in
      let c = child key' h left in
      let range = child_range key' h left in
      on_arms (λ l. l) (ltb (left + 1) end)
      (λ t. let d = ltb→lt (left + 1) end t in
      let size = length-set h i (get_or h c 0) in
      rw (child_same h left (omega arith) a) (sink_same e s k end (set h i (get_or h c 0)) c (omega arith) (omega arith) (same_move h i c (omega arith) a)))
      (on_arms (λ l. l) (eqb (left + 1) end)
      (λ t. let d = eqb→eq (left + 1) end t in
      let size = length-set h i (get_or h left 0) in
      sift_up_same e s left (set h i (get_or h left 0)) left (omega arith) (same_move h i left (omega arith) a))
      (sift_up_same e s i h i b a))

pub push_same : (key key' : ℕ → Float) (h : List ℕ) (e : ℕ) → ((k : ℕ) → In k (e ∷ h) → key k ≡ key' k) → push key h e ≡ push key' h e
push_same key key' h e s =
    sift_up_same key key' e (s e here) (length h) (h ++ e ∷ []) (length h) (omega (arith, length-append h (e ∷ [])))
    (every_snoc (Same key key') h e (λ k m. s k (Memᴰ.tail m)) (s e here))

pub pop_same : (key key' : ℕ → Float) (h : List ℕ) → ((k : ℕ) → In k h → key k ≡ key' k) → pop key h ≡ pop key' h
unfolding pop sink sift_up
pop_same key key' [] s = refl
pop_same key key' (x ∷ xs) s =
    let h = x ∷ xs in
    let n = length h - 1 in
    let size = length-take-le n h (omega arith) in
    sink_same key key' (get_or h n 0) (same_at key key' h n (omega arith) s) n n (take n h) 0 (omega arith) (omega arith) (λ k m. s k (in_take n h m))
