-- Finite amounts up to 360: bit patterns, whole numbers and quotients that give one, and the angle between two bearings.
use Prim.Native.Nat.{ℕ, zero, suc, ◌+◌, ◌-◌, ◌*◌, ◌/◌, ◌%◌, ◌^◌, ◌≤◌, ◌<◌}
use mathlib.Core.Path.{◌≡◌, refl, sym, ap, ◌∙◌, subst}
use mathlib.Core.Logic.{inl, inr}
use mathlib.Core.Bool.{Bool, true, false, ◌&&◌, cond}
use native.Mathlib.Nat.{le_trans, le_of_eq, eq-or-lt_of_le, mul_assoc, mul_comm, mul-one, mul-le-mul_right, mul-le-mul_left, mul-pos, sub-le, pow-succ', zero-lt-suc}
use native.Mathlib.Omega.{arith}
use lib.Dec.{T, eqb, ltb, leb, eqb→eq, leb→le, not_T}
use lib.Pow.{pow_pos, pow-add, pow_mono}
use lib.Ieee.{Float, nan, inf, fin, binary64, emax, low, hid, top, up, down, odd, units, round, sum, add, sub, neg, lt, le, of_int, of_fields, of_bits}
use lib.Ieee.Bits.{is_false, cond_no}
use lib.Ieee.Exact.{odd_sign}
use lib.Ieee.Fits.{down_pos, round_is}
use lib.Ieee.Order.{le_of_values, round_mono}
use borrow.Author.Tests.{le-ltb}
use Rattle.model.specs.Numbers.{f180, f360, fabs, nat, bits}
use Rattle.model.specs.Table.{most_bearing}
use Rattle.model.specs.Candidates.{bearing_difference}
use Rattle.model.proofs.Members.{either}
use Rattle.bounds.specs.Amounts.{measured, amount, Amount, Finite}
use Rattle.bounds.proofs.Rank.{Number, number, to_number, Kind, endless, ended, to_kind, or_le, round_amount}
use Rattle.bounds.proofs.AmountLaws.{bits_finite}

-- a finite amount of at most 360
pub record Turned (x : Float) : Type 0 where
  pub finite : Finite x
  pub within : T (le x f360)

-- an amount that is at most a finite one is finite
pub under_finite : (x y : Float) → Amount x → Finite y → T (le x y) → Finite x
unfolding measured amount le
under_finite x y p q h = go (to_kind x p) (to_number y q) p h
  where
    go : {a b : Float} → Kind a → Number b → Amount a → T (le a b) → Finite a
    go endless (number t) p h = absurd h
    go (ended s) (number t) p h = p

f360_finite : Finite f360
f360_finite = bits_finite most_bearing (omega arith)

-- a fraction of at most 360 rounds to one
pub round_turned : (a b : ℕ) → 0 < b → a ≤ 360 * b → Turned (round binary64 false a b)
unfolding round of_bits
round_turned a b B h =
    let w : T (le (round binary64 false a b) f360) = round_mono binary64 a b 360 1 B (zero-lt-suc 0) (omega arith) in
    record { finite = under_finite (round binary64 false a b) f360 (round_amount a b) f360_finite w; within = w }

-- a whole number
pub nat_turned : (k : ℕ) → k ≤ 360 → Turned (nat k)
unfolding of_int
nat_turned k h = round_turned k 1 (zero-lt-suc 0) (omega arith)

-- ---- a bit pattern

-- 2 ^ 1030 units are 2 ^ -44
most_units : (q p : ℕ) → q ≤ 360 * 2 ^ 44 → q * p ≤ 360 * (p * 2 ^ 44)
most_units q p h = le_trans (mul-le-mul_right p h) (le_of_eq (mul_assoc 360 (2 ^ 44) p ∙ ap (λ (z : ℕ). 360 * z) (mul_comm (2 ^ 44) p)))

scaled : (q k : ℕ) → k ≤ 1030 → (k ≡ 1030 → q ≤ 360 * 2 ^ 44) → q ≤ 2 * 2 ^ 52 → q * 2 ^ k ≤ 360 * 2 ^ 1074
scaled q k h low high = subst (λ (z : ℕ). q * 2 ^ k ≤ 360 * z) (sym (pow-add 2 1030 44)) (elim (eq-or-lt_of_le h) [
  | inl e ↦ subst (λ (j : ℕ). q * 2 ^ j ≤ 360 * (2 ^ 1030 * 2 ^ 44)) (sym e) (most_units q (2 ^ 1030) (low e))
  | inr l ↦
      let twice : 2 * 2 ^ 52 * 2 ^ k ≡ 2 ^ 52 * 2 ^ suc k = ap (λ (z : ℕ). z * 2 ^ k) (mul_comm 2 (2 ^ 52)) ∙ mul_assoc (2 ^ 52) 2 (2 ^ k) ∙ ap (λ (z : ℕ). 2 ^ 52 * z) (sym (pow-succ' 2 k)) in
      le_trans (mul-le-mul_right (2 ^ k) high)
      (le_trans (le_of_eq twice)
      (le_trans (mul-le-mul_left (2 ^ 52) (pow_mono l)) (most_units (2 ^ 52) (2 ^ 1030) (omega arith))))
])

-- q * 2 ^ k units of the smallest value above 0, held to 360
units_within : (q k : ℕ) → q * 2 ^ k ≤ 360 * 2 ^ 1074 → T (le (odd 53 false q k 1074) f360)
unfolding of_bits
units_within q k h = le_of_values (odd 53 false q k 1074) f360 (q * 2 ^ k) (2 ^ 1074) 360 1 (pow_pos 1074) (zero-lt-suc 0) (odd_sign 53 false q k 1074) (refl, refl) (subst (λ (z : ℕ). z ≤ 360 * 2 ^ 1074) (sym (mul-one (q * 2 ^ k))) h)

fields_within : (x t : ℕ) → x ≤ 1031 → t < 2 ^ 52 → (x ≡ 1031 → t ≤ 0x6_8000_0000_0000) → T (le (of_fields binary64 false x t) f360)
unfolding of_fields
fields_within zero t h g l = units_within t 0 (scaled t 0 (omega arith) (λ e. absurd (omega arith)) (omega arith))
fields_within (suc x) t h g l =
    subst (λ (v : Float). T (le v f360))
    (sym (cond_no (eqb (suc x) 2047) (cond (eqb t 0) (inf false) nan) (odd 53 false (2 ^ 52 + t) x 1074) (not_T (eqb (suc x) 2047) (λ u. let e = eqb→eq (suc x) 2047 u in omega arith))))
    (units_within (2 ^ 52 + t) x (scaled (2 ^ 52 + t) x (omega arith) (λ e. let k = l (omega arith) in omega arith) (omega arith)))

pub bits_turned : (n : ℕ) → n ≤ most_bearing → Turned (bits n)
unfolding of_bits
bits_turned n h =
    let sign = is_false (leb (top binary64) n) (not_T (leb (top binary64) n) (λ g. let k = leb→le (top binary64) n g in omega arith)) in
    record {
      finite = bits_finite n (omega arith);
      within = subst (λ (b : Bool). T (le (of_fields binary64 b (n % top binary64 / hid binary64) (n % hid binary64)) f360)) (sym sign)
          (fields_within (n % top binary64 / hid binary64) (n % hid binary64) (omega arith) (omega arith) (λ e. omega arith));
    }

-- ---- the angle between two bearings

-- a value of at most 360 as a fraction
pub as_fraction : (m : ℕ) (e : _) → T (le (fin false m e) f360) → m * up e ≤ 360 * down e
unfolding le of_bits
as_fraction m e h = let k = or_le (m * up e * 1) (45 * 2 ^ 3 * down e) h in omega arith

-- the sign of a rounded fraction is its own
fabs_odd : (s : Bool) (q k : ℕ) → fabs (odd 54 s q k 1074) ≡ odd 54 false q k 1074
unfolding fabs odd
fabs_odd s zero k = refl
fabs_odd s (suc q) k = refl

fabs_cond : (b : Bool) (x y : Float) (s : Bool) → fabs x ≡ y → fabs (cond b x (inf s)) ≡ cond b y (inf false)
unfolding fabs
fabs_cond true x y s e = e
fabs_cond false x y s e = refl

fabs_units : (s : Bool) (q k : ℕ) → fabs (units binary64 s q k) ≡ units binary64 false q k
unfolding units
fabs_units s q k = fabs_cond (ltb (q * 2 ^ k) (2 ^ (low binary64 + suc (emax binary64)))) _ _ s (fabs_odd s q k)

fabs_round : (s : Bool) (a b : ℕ) → fabs (round binary64 s a b) ≡ round binary64 false a b
fabs_round s a b = ap fabs (round_is binary64 s a b) ∙ fabs_units s _ _ ∙ sym (round_is binary64 false a b)

-- one of two rounded fractions, whatever its sign
fabs_turned : (b s t : Bool) (x y c : ℕ) → 0 < c → x ≤ 360 * c → y ≤ 360 * c → Turned (fabs (cond b (round binary64 s x c) (round binary64 t y c)))
fabs_turned true s t x y c C h g = subst Turned (sym (fabs_round s x c)) (round_turned x c C h)
fabs_turned false s t x y c C h g = subst Turned (sym (fabs_round t y c)) (round_turned y c C g)

-- how far apart two values of at most 360 are
apart : {a b : Float} → Number a → Number b → T (le a f360) → T (le b f360) → Turned (fabs (sub binary64 a b))
unfolding sub add neg sum
apart (number {m} {e} s) (number {m = n} {e = d} t) p q =
    let x : m * up e * down d ≤ 360 * (down e * down d) = le_trans (mul-le-mul_right (down d) (as_fraction m e p)) (le_of_eq (mul_assoc 360 (down e) (down d))) in
    let y : n * up d * down e ≤ 360 * (down e * down d) = le_trans (mul-le-mul_right (down e) (as_fraction n d q)) (le_of_eq (mul_assoc 360 (down d) (down e) ∙ ap (λ (z : ℕ). 360 * z) (mul_comm (down d) (down e)))) in
    fabs_turned (ltb (m * up e * down d) (n * up d * down e)) true (false && ltb (n * up d * down e) (m * up e * down d))
    (n * up d * down e - m * up e * down d) (m * up e * down d - n * up d * down e) (down e * down d) (mul-pos (down_pos e) (down_pos d))
    (le_trans (sub-le _ _) y) (le_trans (sub-le _ _) x)

-- what it leaves of 360
left_over : {a : Float} → Number a → T (le a f360) → Turned (sub binary64 f360 a)
unfolding sub add neg sum of_bits
left_over (number {m} {e} s) p =
    let h = as_fraction m e p in
    let low : ltb (45 * 2 ^ 3 * down e) (m * up e * 1) ≡ false = le-ltb (45 * 2 ^ 3 * down e) (m * up e * 1) (omega arith) in
    rw low (round_turned (45 * 2 ^ 3 * down e - m * up e * 1) (1 * down e) (mul-pos (zero-lt-suc 0) (down_pos e)) (omega arith))

pub angle : (a b : Float) → Turned a → Turned b → Turned (bearing_difference a b)
unfolding bearing_difference
angle a b p q =
    let d : Turned (fabs (sub binary64 a b)) = apart (to_number a p.finite) (to_number b q.finite) p.within q.within in
    either Turned (lt f180 (fabs (sub binary64 a b))) (left_over (to_number _ d.finite) d.within) d
