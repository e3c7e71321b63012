-- Lists without repetition: one whose numbers all stand in another is no longer than it.
use Prim.Native.Nat.{ℕ, zero, suc, ◌*◌, ◌≤◌, ◌<◌, zero-le}
use mathlib.Core.Path.{◌≡◌, refl, sym, ap, ◌∙◌, subst}
use mathlib.Core.Logic.{inl, inr, ◌≢◌}
use mathlib.Core.Bool.{Bool, true, false, not}
use mathlib.Core.List.Memᴰ
use mathlib.Core.List.{List, [], ◌∷◌, ◌++◌}
use native.Mathlib.Omega.{arith}
use lib.Dec.{T, ltb, ltb→lt, nltb→le}
use lib.ListN.{length, length-append}
use Rattle.model.specs.Lists.{In}
use Rattle.model.proofs.Members.{here}
use Rattle.bounds.specs.Theorems.{Distinct}

-- none of xs is x
abbrev pub Other : ℕ → List ℕ → Type 0
Other x xs = (y : ℕ) → In y xs → y ≢ x

-- ys with x taken out where it stands
without : {x : ℕ} {ys : List ℕ} → In x ys → List ℕ
without (Memᴰ.head {xs} e) = xs
without (Memᴰ.tail {x = y} m) = y ∷ without m

without_length : {x : ℕ} {ys : List ℕ} (m : In x ys) → length ys ≡ suc (length (without m))
unfolding without
without_length (Memᴰ.head e) = refl
without_length (Memᴰ.tail m) = ap suc (without_length m)

in_without : {x z : ℕ} {ys : List ℕ} (m : In x ys) → In z ys → z ≢ x → In z (without m)
unfolding without
in_without (Memᴰ.head e) k d = elim (Memᴰ.cases_cons k) [ inl f ↦ absurd (d (f ∙ sym e)) | inr j ↦ j ]
in_without (Memᴰ.tail m) k d = elim (Memᴰ.cases_cons k) [ inl f ↦ Memᴰ.head f | inr j ↦ Memᴰ.tail (in_without m j d) ]

-- the pigeonhole law
pub pigeon : (xs ys : List ℕ) → Distinct xs → ((z : ℕ) → In z xs → In z ys) → length xs ≤ length ys
pigeon [] ys d s = zero-le
pigeon (x ∷ xs) ys d s =
    let m = s x here in
    let ih = pigeon xs (without m) d.1 (λ z k. in_without m (s z (Memᴰ.tail k)) (d.0 z k)) in
    omega (arith, without_length m)

-- one number more, behind the others
pub distinct_snoc : (xs : List ℕ) (x : ℕ) → Distinct xs → Other x xs → Distinct (xs ++ x ∷ [])
distinct_snoc [] x d o = (λ z m. absurd (Memᴰ.not-nil m), tt)
distinct_snoc (y ∷ ys) x d o = (other, distinct_snoc ys x d.1 (λ z m. o z (Memᴰ.tail m)))
  where
    other : Other y (ys ++ x ∷ [])
    other z m e = elim (Memᴰ.append_cases ys m) [ inl k ↦ d.0 z k e | inr k ↦ o y here (sym e ∙ Memᴰ.eq_of_singleton k) ]

-- ---- f 0 to f (k - 1), together

unfoldable pub gather : ℕ → (ℕ → List ℕ) → List ℕ
gather zero f = []
gather (suc k) f = f k ++ gather k f

pub in_gather : (k : ℕ) (f : ℕ → List ℕ) (n : ℕ) {z : ℕ} → n < k → In z (f n) → In z (gather k f)
unfolding gather
in_gather zero f n l m = absurd (omega arith)
in_gather (suc k) f n {z} l m = go (ltb n k) (ltb→lt n k) (nltb→le n k) (λ c. in_gather k f n {z = z} c m)
  where
    go : (b : Bool) → (T b → n < k) → (T (not b) → k ≤ n) → (n < k → In z (gather k f)) → In z (f k ++ gather k f)
    go true p q ih = Memᴰ.append_right (f k) (ih (p tt))
    go false p q ih = Memᴰ.append_left (gather k f) (subst (λ (i : ℕ). In z (f i)) {x = n} {y = k} (omega (arith, q tt)) m)

pub gather_length : (k : ℕ) (f : ℕ → List ℕ) → ((n : ℕ) → length (f n) ≤ 2) → length (gather k f) ≤ 2 * k
unfolding gather
gather_length zero f h = zero-le
gather_length (suc k) f h = omega (arith, length-append (f k) (gather k f), gather_length k f h, h k)
