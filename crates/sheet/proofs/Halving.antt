-- A search by halving among numbers that rise: the places that may hold v are `left` ones from `low` on.
use Prim.Native.Nat.{ℕ, ◌+◌, ◌-◌, ◌≤◌, ◌<◌}
use mathlib.Core.Path.{◌≡◌, sym, subst}
use mathlib.Core.Logic.{⊎_elim}
use native.Mathlib.Nat.{eq-or-lt_of_le}
use native.Mathlib.Omega.{arith}

-- f 0, f 1, .., g of them, each below the next
abbrev pub Rises : (ℕ → ℕ) → ℕ → Type 0
Rises f g = (i j : ℕ) → i < j → j < g → f i < f j

pub record Within (f : ℕ → ℕ) (g v low left : ℕ) : Type 0 where
  pub fits : low + left ≤ g
  pub under : (k : ℕ) → k < low → f k < v
  pub over : (k : ℕ) → low + left ≤ k → k < g → v < f k

module _ (f : ℕ → ℕ) (g v : ℕ) where
  -- v stands nowhere where no place is left
  pub within_none : (low left : ℕ) → left ≤ 0 → Within f g v low left → (k : ℕ) → k < g → f k ≡ v → ⊥
  within_none low left z w k h e =
      let below : k < low → ⊥ = λ l. omega (arith, w.under k l) in
      let above : low + left ≤ k → ⊥ = λ l. omega (arith, w.over k l h) in
      omega arith

  module _ (rises : Rises f g) (low left half : ℕ) (h : half < left) (w : Within f g v low left) where
    -- the upper part, where the middle one is below v
    pub within_upper : f (low + half) < v → Within f g v (low + half + 1) (left - half - 1)
    within_upper l = record {
      fits = omega (arith, w.fits);
      under = λ k hk.
          ⊎_elim
          (λ e. subst (λ (x : ℕ). f x < v) (sym e) l)
          (λ b. omega (arith, rises k (low + half) b (omega (arith, w.fits))))
          (eq-or-lt_of_le {n = k} {m = low + half} (omega arith));
      over = λ k hk kg. w.over k (omega arith) kg;
    }

    -- the lower part, where it is above
    pub within_lower : v < f (low + half) → Within f g v low half
    within_lower l = record {
      fits = omega (arith, w.fits);
      under = w.under;
      over = λ k hk kg.
          ⊎_elim
          (λ e. subst (λ (x : ℕ). v < f x) e l)
          (λ b. omega (arith, rises (low + half) k b kg))
          (eq-or-lt_of_le {n = low + half} {m = k} hk);
    }
