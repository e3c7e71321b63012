-- The heap's operations keep its length and what holds of every entry in it; their bounds on steps are never met.
use Prim.Native.Nat.{ℕ, zero, suc, ◌+◌, ◌-◌, ◌*◌, ◌/◌, ◌≤◌, ◌<◌}
use mathlib.Core.Path.{◌≡◌, refl, sym, ap, ◌∙◌}
use mathlib.Core.Bool.{cond}
use mathlib.Core.List.{List, [], ◌∷◌, ◌++◌}
use native.Mathlib.Nat.{le_refl}
use native.Mathlib.Omega.{arith}
use lib.Dec.{eqb, ltb, eqb→eq, ltb→lt}
use lib.ListN.{length, get_or, set, take, length-append, length-set}
use lib.Seq.{length-take-le}
use lib.Ieee.{Float}
use Rattle.model.specs.Numbers.{◌≤ᶠ◌}
use Rattle.model.specs.Heap.{sift_up, child, sink, push, pop}
use Rattle.model.proofs.Members.{either, in_getD, in_take, Every, every_set, every_snoc}
use Rattle.bounds.proofs.Choices.{choose}

-- ---- the length and every entry

-- n entries, each with P
pub record Held (P : ℕ → Type 0) (n : ℕ) (h : List ℕ) : Type 0 where
  pub size : length h ≡ n
  pub every : Every P h

-- one of the two children
pub child_range : (key : ℕ → Float) (h : List ℕ) (left : ℕ) → (left ≤ child key h left) × (child key h left ≤ left + 1)
unfolding child
child_range key h left = either (λ c. (left ≤ c) × (c ≤ left + 1)) (key (get_or h (left + 1) 0) ≤ᶠ key (get_or h left 0)) (omega arith, omega arith) (omega arith, omega arith)

-- the entry e, which has P, finds its place
module _ (P : ℕ → Type 0) (key : ℕ → Float) (n e : ℕ) (p : P e) where
  put_held : (h : List ℕ) (i x : ℕ) → Held P n h → P x → Held P n (set h i x)
  put_held h i x a q = record { size = length-set h i x ∙ a.size; every = every_set P h i x a.every q }

  -- the entry at j moves to i
  move_held : (h : List ℕ) (i j : ℕ) → j < n → Held P n h → Held P n (set h i (get_or h j 0))
  move_held h i j b a = put_held h i (get_or h j 0) a (a.every (get_or h j 0) (in_getD h j 0 (omega arith)))

  pub sift_up_held : (k : ℕ) (h : List ℕ) (i : ℕ) → i ≤ n → Held P n h → Held P n (sift_up k key e h i)
  unfolding sift_up
  sift_up_held zero h i b a = put_held h i e a p
  sift_up_held (suc k) h zero b a = put_held h 0 e a p
  sift_up_held (suc k) h (suc i) b a =
      let up = (suc i - 1) / 2 in
      let put = put_held h (suc i) e a p in
      either (Held P n) (eqb (suc i) 0) put
      (either (Held P n) (key (get_or h up 0) ≤ᶠ key e) put
      (sift_up_held k (set h (suc i) (get_or h up 0)) up (omega arith) (move_held h (suc i) up (omega arith) a)))

  pub sink_held : (k : ℕ) (h : List ℕ) (i : ℕ) → i ≤ n → Held P n h → Held P n (sink k key e n h i)
  unfolding sink
  sink_held zero h i b a = sift_up_held i h i b a
  sink_held (suc k) h i b a =
      let left = 2 * i + 1 in
      let c = child key h left in
      let range = child_range key h left in
      choose (Held P n) (ltb (left + 1) n) (λ t. let d = ltb→lt (left + 1) n t in sink_held k (set h i (get_or h c 0)) c (omega arith) (move_held h i c (omega arith) a))
      (λ t. choose (Held P n) (eqb (left + 1) n) (λ u. let d = eqb→eq (left + 1) n u in sift_up_held left (set h i (get_or h left 0)) left (omega arith) (move_held h i left (omega arith) a))
      (λ u. sift_up_held i h i b a))

-- one entry more, one fewer
pub push_held : (P : ℕ → Type 0) (key : ℕ → Float) (h : List ℕ) (e : ℕ) → Every P h → P e → Held P (suc (length h)) (push key h e)
push_held P key h e a p =
    sift_up_held P key (suc (length h)) e p (length h) (h ++ e ∷ []) (length h) (omega arith)
    record { size = length-append h (e ∷ []) ∙ omega arith; every = every_snoc P h e a p }

pub pop_held : (P : ℕ → Type 0) (key : ℕ → Float) (h : List ℕ) → Every P h → Held P (length h - 1) (pop key h)
unfolding pop sink sift_up
pop_held P key [] a = record { size = refl; every = a }
pop_held P key (x ∷ xs) a =
    let h = x ∷ xs in
    let n = length h - 1 in
    sink_held P key n (get_or h n 0) (a (get_or h n 0) (in_getD h n 0 (omega arith))) n (take n h) 0 (omega arith)
    record { size = length-take-le n h (omega arith); every = λ y m. a y (in_take n h m) }

-- their lengths: nothing is asked of the entries
abbrev Any : ℕ → Type 0
Any k = Unit {0}

pub length_push : (key : ℕ → Float) (h : List ℕ) (e : ℕ) → length (push key h e) ≡ suc (length h)
length_push key h e = (push_held Any key h e (λ y m. tt) tt).size

pub length_pop : (key : ℕ → Float) (h : List ℕ) → length (pop key h) ≡ length h - 1
length_pop key h = (pop_held Any key h (λ y m. tt)).size

-- ---- any two bounds on the steps that reach give the same

module _ (key : ℕ → Float) (e : ℕ) where
  pub sift_up_enough : (j k : ℕ) (h : List ℕ) (i : ℕ) → i ≤ j → i ≤ k → sift_up j key e h i ≡ sift_up k key e h i
  unfolding sift_up
  sift_up_enough zero zero h i a b = refl
  sift_up_enough zero (suc k) h zero a b = refl
  sift_up_enough zero (suc k) h (suc i) a b = absurd (omega arith)
  sift_up_enough (suc j) zero h zero a b = refl
  sift_up_enough (suc j) zero h (suc i) a b = absurd (omega arith)
  sift_up_enough (suc j) (suc k) h zero a b = refl
  sift_up_enough (suc j) (suc k) h (suc i) a b =
      let up = (suc i - 1) / 2 in
      let put = set h (suc i) e in
      ap (λ (x : List ℕ). cond (eqb (suc i) 0) put (cond (key (get_or h up 0) ≤ᶠ key e) put x)) (sift_up_enough j k (set h (suc i) (get_or h up 0)) up (omega arith) (omega arith))

  -- past the end the hole stays
  sink_stops : (k end : ℕ) (h : List ℕ) (i : ℕ) → end ≤ i → sink k key e end h i ≡ sift_up i key e h i
  unfolding sink
  sink_stops zero end h i b = refl
  sink_stops (suc k) end h i b =
      let left = 2 * i + 1 in
      let Stays : List ℕ → Type 0 = λ x. x ≡ sift_up i key e h i in
      choose Stays (ltb (left + 1) end) (λ t. absurd (omega (arith, ltb→lt (left + 1) end t)))
      (λ t. choose Stays (eqb (left + 1) end) (λ u. absurd (omega (arith, eqb→eq (left + 1) end u)))
      (λ u. refl))

  pub sink_enough : (j k end : ℕ) (h : List ℕ) (i : ℕ) → end ≤ i + j → end ≤ i + k → sink j key e end h i ≡ sink k key e end h i
  unfolding sink
  sink_enough zero k end h i a b = sym (sink_stops k end h i (omega arith))
  sink_enough (suc j) zero end h i a b = sink_stops (suc j) end h i (omega arith)
  sink_enough (suc j) (suc k) end h i a b =
      let left = 2 * i + 1 in
      let c = child key h left in
      let range = child_range key h left in
      ap (λ (x : List ℕ). cond (ltb (left + 1) end) x (cond (eqb (left + 1) end) (sift_up left key e (set h i (get_or h left 0)) left) (sift_up i key e h i)))
      (sink_enough j k end (set h i (get_or h c 0)) c (omega arith) (omega arith))

-- so the bounds that push and pop take are enough
pub push_enough : (key : ℕ → Float) (k : ℕ) (h : List ℕ) (e : ℕ) → length h ≤ k → sift_up k key e (h ++ e ∷ []) (length h) ≡ push key h e
push_enough key k h e a = sift_up_enough key e k (length h) (h ++ e ∷ []) (length h) a (le_refl (length h))

pub pop_enough : (key : ℕ → Float) (k : ℕ) (h : List ℕ) → length h - 1 ≤ k → sink k key (get_or h (length h - 1) 0) (length h - 1) (take (length h - 1) h) 0 ≡ pop key h
unfolding pop
pop_enough key k h a = let n = length h - 1 in sink_enough key (get_or h n 0) k n n (take n h) 0 (omega arith) (omega arith)
