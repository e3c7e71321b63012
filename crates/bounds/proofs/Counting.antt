-- How many of the first numbers pass a test: a test that passes more of them counts more.
use Prim.Native.Nat.{ℕ, zero, suc, ◌+◌, ◌≤◌, ◌<◌, zero-le}
use mathlib.Core.Path.{◌≡◌, refl}
use mathlib.Core.Logic.{inl, inr}
use mathlib.Core.Bool.{Bool, true, false, not}
use native.Mathlib.Nat.{le_refl}
use native.Mathlib.Omega.{arith}
use lib.Dec.{T}
use Rattle.bounds.proofs.Choices.{same_or_other}

-- 1 where a test passes
one_if : Bool → ℕ
one_if true = 1
one_if false = 0

one_if_mono : (a b : Bool) → (T a → T b) → one_if a ≤ one_if b
unfolding one_if
one_if_mono true true f = le_refl 1
one_if_mono true false f = absurd (f tt)
one_if_mono false b f = zero-le

one_if_strict : (a b : Bool) → T (not a) → T b → one_if a < one_if b
unfolding one_if
one_if_strict true b f g = absurd f
one_if_strict false true f g = le_refl 1
one_if_strict false false f g = absurd g

-- how many of 0, 1, .., k - 1 pass the test p
pub count : (ℕ → Bool) → ℕ → ℕ
count p zero = 0
count p (suc k) = one_if (p k) + count p k

pub count_all : (k : ℕ) → count (λ i. true) k ≡ k
unfolding count one_if
count_all zero = refl
count_all (suc k) = omega (arith, count_all k)

-- q passes all that p passes
module _ (p q : ℕ → Bool) (only : (i : ℕ) → T (p i) → T (q i)) where
  pub count_mono : (k : ℕ) → count p k ≤ count q k
  unfolding count
  count_mono zero = le_refl 0
  count_mono (suc k) = omega (arith, one_if_mono (p k) (q k) (only k), count_mono k)

  -- and n besides
  pub count_strict : (k n : ℕ) → n < k → T (not (p n)) → T (q n) → count p k < count q k
  unfolding count
  count_strict zero n l a b = absurd (omega arith)
  count_strict (suc k) n l a b = elim (same_or_other n k) [
    | inl e ↦ omega (arith, one_if_strict (p k) (q k) (rw e at a) (rw e at b), count_mono k)
    | inr d ↦ omega (arith, one_if_mono (p k) (q k) (only k), count_strict k n (omega arith) a b)
  ]
