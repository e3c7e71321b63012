-- A fold over two lists.
use mathlib.Core.Path.{◌≡◌, refl}
use mathlib.Core.List.{List, [], ◌∷◌, ◌++◌}
use Rattle.model.specs.Lists.{fold}

module _ {A B : Type 0} (f : B → A → B) where
  pub fold_append : (b : B) (l m : List A) → fold f b (l ++ m) ≡ fold f (fold f b l) m
  unfolding fold
  fold_append b [] m = refl
  fold_append b (x ∷ l) m = fold_append (f b x) l m
