-- The f64 values that the decode of a well-formed sheet meets.
use Rattle.std.specs.Prelude.{Bool, true, false, not, T, Float}
use Rattle.std.specs.Float.{nan, inf, fin, binary64}
use Rattle.std.specs.Float.Ieee.{fits, le}
use Rattle.model.specs.Numbers.{f1}

-- finite with the sign clear, so neither a NaN nor -0
unfoldable pub measured : Float → Bool
measured nan = false
measured (inf s) = false
measured (fin true m e) = false
measured (fin false m e) = fits binary64 (fin false m e)

-- an amount: no NaN, sign clear, +infinity allowed
unfoldable pub amount : Float → Bool
amount nan = false
amount (inf s) = not s
amount (fin true m e) = false
amount (fin false m e) = fits binary64 (fin false m e)

abbrev pub Finite : Float → Type 0
Finite x = T (measured x)

abbrev pub Amount : Float → Type 0
Amount x = T (amount x)

-- from 0 to 1
pub record Portion (x : Float) : Type 0 where
  pub finite : Finite x
  pub within : T (le x f1)
