-- A test that antt computes at each number below a bound, or at each pair, and the fact at each of them.
use mathlib.Core.Path.{subst}
use mathlib.Core.Bool.{Bool}
use Prim.Native.Nat.{ℕ, ◌<◌}
use native.Mathlib.Nat.{zero-add}
use lib.Dec.{T}
use Rattle.model.specs.Lists.{all, tabulate}
use Rattle.model.proofs.Members.{all_at, tab_in}

abbrev pub below : ℕ → (ℕ → Bool) → Bool
below n p = all p (tabulate n 0 (λ k. k))

pub at_number : (n : ℕ) (p : ℕ → Bool) → T (below n p) → (k : ℕ) → k < n → T (p k)
at_number n p t k h = subst (λ (j : ℕ). T (p j)) (zero-add k) (all_at p t (tab_in n 0 (λ k. k) k h))

pub at_pair : (n m : ℕ) (p : ℕ → ℕ → Bool) → T (below n (λ a. below m (p a))) → (a b : ℕ) → a < n → b < m → T (p a b)
at_pair n m p t a b h g = at_number m (p a) (at_number n (λ a. below m (p a)) t a h) b g
