-- Tables that agree, that differ at one place, or that have one entry more.
use Prim.Native.Nat.{ℕ, zero, suc, ◌+◌, ◌-◌, ◌≤◌, ◌<◌}
use mathlib.Core.Path.{◌≡◌, refl, sym, ap, ◌∙◌}
use mathlib.Core.Logic.{inl, inr, ◌≢◌}
use mathlib.Core.List.{List, [], ◌∷◌, ◌++◌}
use native.Mathlib.Omega.{arith}
use lib.ListN.{get_or, set, replicate, length-set, length-replicate, get_or-replicate}
use lib.Seq.{ext_get_or, get_or-set_same, get_or-set_other}
use Rattle.model.specs.Lists.{tabulate}
use Rattle.model.proofs.Members.{length_tab, getD_table}
use Rattle.bounds.proofs.Choices.{same_or_other}

module _ {A : Type 0} where
  pub table_same : (n : ℕ) (f g : ℕ → A) → ((k : ℕ) → k < n → f k ≡ g k) → tabulate n 0 f ≡ tabulate n 0 g
  unfolding tabulate
  table_same zero f g h = refl
  table_same (suc n) f g h =
      ext_get_or (f 0) (tabulate (suc n) 0 f) (tabulate (suc n) 0 g) (length_tab (suc n) 0 f ∙ sym (length_tab (suc n) 0 g)) (λ k l.
      let inside : k < suc n = omega (arith, length_tab (suc n) 0 f) in
      getD_table (suc n) f k (f 0) inside ∙ h k inside ∙ sym (getD_table (suc n) g k (f 0) inside))

  -- g is f but x at v
  pub table_set : (n : ℕ) (f g : ℕ → A) (v : ℕ) (x : A) → v < n → g v ≡ x → ((k : ℕ) → k ≢ v → g k ≡ f k) → tabulate n 0 g ≡ set (tabulate n 0 f) v x
  table_set n f g v x inside is others =
      ext_get_or x (tabulate n 0 g) (set (tabulate n 0 f) v x) (length_tab n 0 g ∙ sym (length-set (tabulate n 0 f) v x ∙ length_tab n 0 f)) (λ k l.
      let below : k < n = omega (arith, length_tab n 0 g) in
      getD_table n g k x below ∙ elim (same_or_other k v) [
        | inl e ↦ ap g e ∙ is ∙ sym (ap (λ (j : ℕ). get_or (set (tabulate n 0 f) v x) j x) e ∙ get_or-set_same (tabulate n 0 f) v x x (omega (arith, length_tab n 0 f)))
        | inr e ↦ others k e ∙ sym (get_or-set_other (tabulate n 0 f) v k x x e ∙ getD_table n f k x below)
      ])

  tab_more : (n i : ℕ) (f : ℕ → A) → tabulate (suc n) i f ≡ tabulate n i f ++ f (i + n) ∷ []
  unfolding tabulate
  tab_more zero i f = ap (λ (j : ℕ). f j ∷ []) {x = i} {y = i + 0} (omega arith)
  tab_more (suc n) i f = ap (λ (xs : List A). f i ∷ xs) (tab_more n (i + 1) f ∙ ap (λ (j : ℕ). tabulate n (i + 1) f ++ f j ∷ []) {x = i + 1 + n} {y = i + suc n} (omega arith))

  -- g is f below n, and x at n
  pub table_more : (n : ℕ) (f g : ℕ → A) (x : A) → g n ≡ x → ((k : ℕ) → k < n → g k ≡ f k) → tabulate (n + 1) 0 g ≡ tabulate n 0 f ++ x ∷ []
  table_more n f g x is below =
      ap (λ (m : ℕ). tabulate m 0 g) {x = n + 1} {y = suc n} (omega arith)
      ∙ tab_more n 0 g
      ∙ ap (λ (xs : List A). xs ++ g (0 + n) ∷ []) (table_same n g f below)
      ∙ ap (λ (y : A). tabulate n 0 f ++ y ∷ []) (ap g {x = 0 + n} {y = n} (omega arith) ∙ is)

  pub table_alike : (n : ℕ) (f : ℕ → A) (x : A) → ((k : ℕ) → k < n → f k ≡ x) → tabulate n 0 f ≡ replicate n x
  table_alike n f x h =
      ext_get_or x (tabulate n 0 f) (replicate n x) (length_tab n 0 f ∙ sym (length-replicate n x)) (λ k l.
      let below : k < n = omega (arith, length_tab n 0 f) in
      getD_table n f k x below ∙ h k below ∙ sym (get_or-replicate n k x x below))

  -- the places from i to end: one by one
  pub tab_next : (end i : ℕ) (f : ℕ → A) → i < end → tabulate (end - i) i f ≡ f i ∷ tabulate (end - (i + 1)) (i + 1) f
  unfolding tabulate
  tab_next end i f h = ap (λ (n : ℕ). tabulate n i f) {x = end - i} {y = suc (end - (i + 1))} (omega arith)

  pub tab_none : (end i : ℕ) (f : ℕ → A) → end ≤ i → tabulate (end - i) i f ≡ []
  unfolding tabulate
  tab_none end i f h = ap (λ (n : ℕ). tabulate n i f) {x = end - i} {y = 0} (omega arith)
