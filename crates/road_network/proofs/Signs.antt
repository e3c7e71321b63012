-- The absolute value of an f64, as std has it.
use mathlib.Core.Path.{◌≡◌, refl}
use lib.Ieee.{Float, nan, inf, fin}
use Rattle.std.proofs.Common.{false}
use Rattle.std.specs.Float.{float_with_sign}
use Rattle.model.specs.Numbers.{fabs}

pub abs_is : (x : Float) → float_with_sign false x ≡ fabs x
unfolding fabs float_with_sign
abs_is nan = refl
abs_is (inf s) = refl
abs_is (fin s m e) = refl
