-- A sum of amounts is no lower for a greater summand, infinity included.
use Prim.Native.Nat.{ℕ, ◌+◌, ◌*◌, ◌≤◌}
use mathlib.Core.Bool.{false}
use native.Mathlib.Nat.{mul-le-mul_right, mul-pos}
use native.Mathlib.Omega.{arith}
use lib.Dec.{T}
use lib.Ieee.{Float, inf, binary64, up, down, add, le}
use lib.Ieee.Fits.{down_pos}
use lib.Ieee.Order.{round_mono}
use Rattle.bounds.specs.Amounts.{Amount}
use Rattle.bounds.proofs.Rank.{Kind, endless, ended, to_kind, or_le, add_amount}

-- c + a against c + b as fractions, where a and b are over d and e, and c over f
fractions : (a b c d e f : ℕ) → a * e ≤ b * d → (c * d + a * f) * (f * e) ≤ (c * e + b * f) * (f * d)
fractions a b c d e f h = let g = mul-le-mul_right (f * f) h in omega arith

at_most_endless : {x : Float} → Kind x → T (le x (inf false))
unfolding le
at_most_endless endless = tt
at_most_endless (ended s) = tt

pub add_order : (c a b : Float) → Amount c → Amount a → Amount b → T (le a b) → T (le (add binary64 c a) (add binary64 c b))
unfolding add le
add_order c a b r p q = go (to_kind c r) (to_kind a p) (to_kind b q) (to_kind (add binary64 c a) (add_amount c a r p))
  where
    go : {c a b : Float} → Kind c → Kind a → Kind b → Kind (add binary64 c a) → T (le a b) → T (le (add binary64 c a) (add binary64 c b))
    go endless endless endless k h = tt
    go endless endless (ended t) k h = tt
    go endless (ended s) endless k h = tt
    go endless (ended s) (ended t) k h = tt
    go (ended w) a endless k h = at_most_endless k
    go (ended w) endless (ended t) k h = absurd h
    go (ended {m = l} {e = f} w) (ended {m} {e} s) (ended {m = n} {e = d} t) k h =
        round_mono binary64 (l * up f * down e + m * up e * down f) (down f * down e) (l * up f * down d + n * up d * down f) (down f * down d)
        (mul-pos (down_pos f) (down_pos e)) (mul-pos (down_pos f) (down_pos d))
        (fractions (m * up e) (n * up d) (l * up f) (down e) (down d) (down f) (or_le (m * up e * down d) (n * up d * down e) h))
