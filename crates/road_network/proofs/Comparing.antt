-- Byte strings compared by std, as the definition compares them.
use mathlib.Core.Path.{◌≡◌, refl}
use mathlib.Core.List.{List, [], ◌∷◌}
use Prim.Native.Nat.{ℕ}
use native.Mathlib.Omega.{arith}
use lib.Dec.{eqb}
use Rattle.std.specs.Cmp.Lexicographic.{pointwise}
use Rattle.std.proofs.lemmas.Bool.Decides.{nat_tests}
use Rattle.model.specs.Candidates.{same_bytes}

flipped : (x y : ℕ) → eqb y x ≡ eqb x y
flipped x y = grind (arith, nat_tests)

pub compared : (a b : List ℕ) → pointwise eqb b a ≡ same_bytes a b
unfolding same_bytes
compared [] [] = refl
compared [] (y ∷ ys) = refl
compared (x ∷ xs) [] = refl
compared (x ∷ xs) (y ∷ ys) = rw (flipped x y, compared xs ys)
