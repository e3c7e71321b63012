-- A product of a count and a width, and one turn of a loop that looks whether a number was met.
use Prim.Native.Nat.{ℕ, ◌+◌, ◌*◌, ◌≤◌, ◌<◌}
use mathlib.Core.Path.{◌≡◌, refl, subst}
use mathlib.Core.Bool.{false, ◌||◌}
use native.Mathlib.Nat.{suc-mul, mul-le-mul_right}
use native.Mathlib.Numerals.{add-one}
use lib.Dec.{eqb}
use Rattle.model.specs.Table.{met}

-- a record below the count ends within all of them
pub below_times : (k n w : ℕ) → k < n → k * w + w ≤ n * w
below_times k n w h = subst (λ (x : ℕ). x ≤ n * w) (suc-mul k w) (mul-le-mul_right w h)

pub met_none : (f : ℕ → ℕ) (v : ℕ) → met f v 0 ≡ false
unfolding met
met_none f v = refl

pub met_next : (f : ℕ → ℕ) (v k : ℕ) → met f v (k + 1) ≡ (eqb (f k) v || met f v k)
unfolding met
met_next f v k = rw add-one
