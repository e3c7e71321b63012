-- Numbers below n, n of them and none twice, are all the numbers below n: by counting those that were met.
use Prim.Native.Nat.{ℕ, zero, suc, ◌+◌, ◌≤◌, ◌<◌}
use mathlib.Core.Path.{◌≡◌, refl, sym, ap, subst, ◌∙◌}
use mathlib.Core.Logic.{⊎_elim}
use mathlib.Core.Bool.{Bool, true, false, ◌||◌}
use native.Mathlib.Nat.{not-suc-le-zero, le_of_suc-le-suc, eq-or-lt_of_le, lt_irrefl}
use native.Mathlib.Omega.{arith}
use lib.Dec.{eqb}
use borrow.Author.Tests.{eq-eqb, ne_eqb, eqb-true}
use Rattle.model.specs.Table.{met}

-- ---- counting

abbrev one_if : Bool → ℕ
one_if true = 1
one_if false = 0

-- how many numbers below m pass the test
abbrev count : (ℕ → Bool) → ℕ → ℕ
count p zero = 0
count p (suc m) = one_if (p m) + count p m

one_if_le : (b : Bool) → one_if b ≤ 1
one_if_le true = omega arith
one_if_le false = omega arith

one_if_true : (b : Bool) → 1 ≤ one_if b → b ≡ true
one_if_true true h = refl
one_if_true false h = absurd (omega arith)

count_le : (p : ℕ → Bool) (m : ℕ) → count p m ≤ m
count_le p zero = omega arith
count_le p (suc m) = omega (arith, one_if_le (p m), count_le p m)

-- where all are counted, each passes
full : (p : ℕ → Bool) (m : ℕ) → m ≤ count p m → (v : ℕ) → v < m → p v ≡ true
full p zero e v h = absurd (not-suc-le-zero h)
full p (suc m) e v h =
    ⊎_elim
    (λ q. subst (λ (x : ℕ). p x ≡ true) (sym q) (one_if_true (p m) (omega (arith, count_le p m))))
    (λ l. full p m (omega (arith, one_if_le (p m))) v l)
    (eq-or-lt_of_le (le_of_suc-le-suc h))

count_same : (p q : ℕ → Bool) (m : ℕ) → ((v : ℕ) → v < m → q v ≡ p v) → count q m ≡ count p m
count_same p q zero h = refl
count_same p q (suc m) h = rw (h m (omega arith), count_same p q m (λ v l. h v (omega arith)))

count_none : (m : ℕ) → count (λ v. false) m ≡ 0
count_none zero = refl
count_none (suc m) = omega (arith, count_none m)

-- one number more
count_more : (p : ℕ → Bool) (x m : ℕ) → x < m → p x ≡ false → count (λ v. eqb x v || p v) m ≡ suc (count p m)
count_more p x zero h e = absurd (not-suc-le-zero h)
count_more p x (suc m) h e =
    ⊎_elim
    (λ q.
    let here : p m ≡ false = subst (λ (y : ℕ). p y ≡ false) q e in
    let rest : count (λ v. eqb x v || p v) m ≡ count p m = count_same p _ m (λ v l. rw (ne_eqb x v (λ s. lt_irrefl v (subst (λ (y : ℕ). v < y) (sym q ∙ s) l)))) in
    rw (eq-eqb x m q, rest, here) (omega arith))
    (λ l.
    rw (ne_eqb x m (λ s. lt_irrefl m (subst (λ (y : ℕ). y < m) s l)), count_more p x m l e) (omega arith))
    (eq-or-lt_of_le (le_of_suc-le-suc h))

-- ---- numbers met

or_true : (b : Bool) → (b || true) ≡ true
or_true true = refl
or_true false = refl

-- a place of v among f 0, f 1, .., k of them
pub record Place (f : ℕ → ℕ) (v k : ℕ) : Type 0 where
  pub place : ℕ
  pub below : place < k
  pub is : f place ≡ v

module _ (f : ℕ → ℕ) where
  -- what stands at a place before k is met
  pub met_yes : (j k : ℕ) → j < k → met f (f j) k ≡ true
  unfolding met
  met_yes j zero h = absurd (not-suc-le-zero h)
  met_yes j (suc k) h =
      ⊎_elim (λ q. rw (eq-eqb (f k) (f j) (ap f (sym q)))) (λ l. rw (met_yes j k l) (or_true (eqb (f k) (f j)))) (eq-or-lt_of_le (le_of_suc-le-suc h))

  place_at : (v k : ℕ) (b : Bool) → eqb (f k) v ≡ b → (b || met f v k) ≡ true → (met f v k ≡ true → Place f v k) → Place f v (suc k)
  place_at v k true p e next = record { place = k; below = omega arith; is = eqb-true (f k) v p }
  place_at v k false p e next = let r = next e in record { place = r.place; below = omega (arith, r.below); is = r.is }

  -- what is met stands at a place
  pub met_place : (v k : ℕ) → met f v k ≡ true → Place f v k
  unfolding met
  met_place v zero e = let z : ◌≡◌ {A = ℕ} 0 1 = cc in absurd (omega arith)
  met_place v (suc k) e = place_at v k (eqb (f k) v) refl e (λ e. met_place v k e)

  module _ (n : ℕ) (under : (j : ℕ) → j < n → f j < n) (fresh : (j : ℕ) → j < n → met f (f j) j ≡ false) where
    counted : (k : ℕ) → k ≤ n → count (λ v. met f v k) n ≡ k
    unfolding met
    counted zero h = count_none n
    counted (suc k) h = count_more (λ v. met f v k) (f k) n (under k h) (fresh k h) ∙ ap suc (counted k (omega arith))

    pub all_met : (v : ℕ) → v < n → met f v n ≡ true
    all_met v h = full (λ v. met f v n) n (omega (arith, counted n (omega arith))) v h
