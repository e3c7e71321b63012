-- Insertion sort: one that is below all before it, and that nothing behind it is below, comes out first.
use mathlib.Core.Path.{◌≡◌, refl, sym, ap, ◌∙◌}
use mathlib.Core.Bool.{Bool, true, false}
use mathlib.Core.List.Memᴰ
use mathlib.Core.List.{List, [], ◌∷◌, ◌++◌}
use Rattle.model.specs.Lists.{insert, sort, fold}
use Rattle.model.proofs.Members.{here, in_sort, Every}
use Rattle.candidates.proofs.Folds.{fold_append}

module _ {A : Type 0} (below : A → A → Bool) where
  abbrev inserts : List A → List A → List A
  inserts = fold (λ ys y. insert below y ys)

  insert_first : (x : A) (ys : List A) → Every (λ (y : A). below x y ≡ true) ys → insert below x ys ≡ x ∷ ys
  unfolding insert
  insert_first x [] h = refl
  insert_first x (y ∷ ys) h = rw (h y here, insert)

  inserts_behind : (x : A) (ys zs : List A) → Every (λ (z : A). below z x ≡ false) zs → inserts (x ∷ ys) zs ≡ x ∷ inserts ys zs
  unfolding fold insert
  inserts_behind x ys [] h = refl
  inserts_behind x ys (z ∷ zs) h = rw (h z here) (inserts_behind x (insert below z ys) zs (λ u m. h u (Memᴰ.tail m)))

  pub sort_first : (x : A) (ys zs : List A) → Every (λ (y : A). below x y ≡ true) ys → Every (λ (z : A). below z x ≡ false) zs
      → sort below (ys ++ (x ∷ zs)) ≡ x ∷ sort below (ys ++ zs)
  unfolding sort fold
  sort_first x ys zs h g =
      let f : List A → A → List A = λ us u. insert below u us in
      fold_append f [] ys (x ∷ zs)
      ∙ ap (λ (us : List A). inserts us zs) (insert_first x (sort below ys) (λ y m. h y (in_sort below ys m)))
      ∙ inserts_behind x (sort below ys) zs g
      ∙ ap (λ (us : List A). x ∷ us) (sym (fold_append f [] ys zs))
