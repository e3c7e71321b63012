-- f64 as the decode uses it: binary64 of the logic's IEEE library, one rounding for each operation. Constants stand as their bits.
use Rattle.std.specs.Prelude.{ℕ, Bool, false, cond, pos, Float}
use Rattle.std.specs.Float.{nan, inf, fin, binary64}
use Rattle.std.specs.Float.Ieee.{add, sub, mul, div, lt, le, of_int, of_bits}

infixl 60 ◌⊕◌
infixl 60 ◌⊖◌
infixl 70 ◌⊗◌
infixl 70 ◌⊘◌
infix 50 ◌<ᶠ◌
infix 50 ◌≤ᶠ◌
abbrev pub ◌⊕◌ : Float → Float → Float
x ⊕ y = add binary64 x y

abbrev pub ◌⊖◌ : Float → Float → Float
x ⊖ y = sub binary64 x y

abbrev pub ◌⊗◌ : Float → Float → Float
x ⊗ y = mul binary64 x y

abbrev pub ◌⊘◌ : Float → Float → Float
x ⊘ y = div binary64 x y

abbrev pub ◌<ᶠ◌ : Float → Float → Bool
x <ᶠ y = lt x y

abbrev pub ◌≤ᶠ◌ : Float → Float → Bool
x ≤ᶠ y = le x y

-- f64::min and f64::max. No NaN reaches them.
unfoldable pub fmin : Float → Float → Float
fmin x y = cond (y <ᶠ x) y x

unfoldable pub fmax : Float → Float → Float
fmax x y = cond (x <ᶠ y) y x

-- f64::abs
unfoldable pub fabs : Float → Float
fabs nan = nan
fabs (inf s) = inf false
fabs (fin s m e) = fin false m e

-- n as f64
abbrev pub nat : ℕ → Float
nat n = of_int binary64 (pos n)

abbrev pub bits : ℕ → Float
bits n = of_bits binary64 n

-- ---- the constants of the Rust text

abbrev pub f0 : Float
f0 = bits 0

abbrev pub half : Float
half = bits 0x3FE0_0000_0000_0000

abbrev pub three_quarters : Float
three_quarters = bits 0x3FE8_0000_0000_0000

abbrev pub f1 : Float
f1 = bits 0x3FF0_0000_0000_0000

abbrev pub f3 : Float
f3 = bits 0x4008_0000_0000_0000

abbrev pub f5 : Float
f5 = bits 0x4014_0000_0000_0000

abbrev pub f10 : Float
f10 = bits 0x4024_0000_0000_0000

abbrev pub f180 : Float
f180 = bits 0x4066_8000_0000_0000

abbrev pub f360 : Float
f360 = bits 0x4076_8000_0000_0000

abbrev pub f500 : Float
f500 = bits 0x407F_4000_0000_0000

-- 0.03
abbrev pub min_edge_contribution : Float
min_edge_contribution = bits 0x3F9E_B851_EB85_1EB8

-- f64::MAX and f64::INFINITY
abbrev pub greatest_float : Float
greatest_float = bits 0x7FEF_FFFF_FFFF_FFFF

abbrev pub infinity : Float
infinity = inf false
