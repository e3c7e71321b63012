-- The penalty of a road by its two marks: four values in a row.
use Prim.Native.Nat.{◌+◌, ◌*◌, ◌≤◌}
use mathlib.Core.Path.{◌≡◌, refl}
use mathlib.Core.Bool.{Bool, true, false, cond}
use mathlib.Core.List.{[], ◌∷◌}
use native.Mathlib.Omega.{arith}
use lib.ListN.{get_or}
use lib.Ieee.{Float, nan}
use Rattle.std.specs.Int.{from_bool}

pub mark_most : (b : Bool) → from_bool b ≤ 1
mark_most true = omega arith
mark_most false = omega arith

pub by_marks : (none access slip : Float) (x y : Bool) → get_or (none ∷ access ∷ slip ∷ slip ∷ []) (2 * from_bool x + from_bool y) nan ≡ cond x slip (cond y access none)
by_marks none access slip true true = refl
by_marks none access slip true false = refl
by_marks none access slip false true = refl
by_marks none access slip false false = refl
