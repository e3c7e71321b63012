-- What the constants, the bit patterns and each operation on amounts, finite amounts and portions give.
use Prim.Native.Nat.{ℕ, zero, suc, ◌+◌, ◌-◌, ◌*◌, ◌/◌, ◌%◌, ◌^◌, ◌≤◌, ◌<◌, zero-le, compare}
use mathlib.Core.Path.{◌≡◌, sym, subst}
use mathlib.Core.Bool.{Bool, true, false, not, ◌&&◌, ◌||◌, cond}
use native.Mathlib.Nat.{le_refl, le_trans, lt_irrefl, not-le_of_lt, zero-mul, mul-le-mul_right, mul-pos, sub-le, zero-lt-suc}
use native.Mathlib.Omega.{arith}
use lib.Dec.{T, T_not, not_T, eqb, ltb, leb, eqb→eq, ltb→lt, lt→ltb, leb→le}
use lib.IntN.{ℤ}
use lib.Ieee.{Float, nan, inf, fin, binary64, prec, emax, low, up, down, size, nearest, odd, round, sum, add, sub, mul, div, lt, eq, le, fits, hid, ones, top, of_fields, of_bits}
use lib.Ieee.Fits.{down_pos}
use lib.Ieee.Bits.{is_true, is_false, cond_no, of_bits-fits}
use lib.Ieee.Order.{round_mono}
use lib.Ieee.Positive.{first_pos}
use Rattle.model.specs.Numbers.{f0, f1}
use Rattle.bounds.specs.Amounts.{measured, amount, Amount, Finite, Portion}
use Rattle.bounds.proofs.Rank.{place, rank, Number, number, to_number, Kind, endless, ended, to_kind, or_le, rank_le, nlt_rank, lt_rank, round_amount, round_rank, add_amount}

-- a finite amount is an amount
pub finite_amount : (x : Float) → Finite x → Amount x
unfolding measured amount
finite_amount nan p = p
finite_amount (inf s) p = absurd p
finite_amount (fin true m e) p = p
finite_amount (fin false m e) p = p

-- 0 is finite
pub zero_finite : Finite f0
unfolding measured fits of_bits
zero_finite = tt

-- 1 is finite
pub one_finite : Finite f1
unfolding measured fits of_bits
one_finite = tt

-- 0 is an amount
pub zero_amount : Amount f0
zero_amount = finite_amount f0 zero_finite

-- 1 is an amount
pub one_amount : Amount f1
one_amount = finite_amount f1 one_finite

-- nothing ranks lower than 0
pub zero_rank : (x : Float) → rank f0 ≤ rank x
unfolding rank of_bits
zero_rank x = zero-le

-- `odd` gives a finite amount where it gives what fits
odd_finite : (q k : ℕ) → T (fits binary64 (odd (prec binary64) false q k (low binary64))) → Finite (odd (prec binary64) false q k (low binary64))
unfolding measured odd
odd_finite zero k f = f
odd_finite (suc q) k f = f

-- the fields of a pattern make a finite amount where the sign is clear and the exponent's field is not all ones
fields_finite : (x t : ℕ) → T (not (eqb x (ones binary64))) → T (fits binary64 (of_fields binary64 false x t)) → Finite (of_fields binary64 false x t)
unfolding of_fields
fields_finite zero t h = odd_finite t 0
fields_finite (suc x) t h =
    subst (λ (v : Float). T (fits binary64 v) → Finite v)
    (sym (cond_no (eqb (suc x) (ones binary64)) (cond (eqb t 0) (inf false) nan) (odd (prec binary64) false (hid binary64 + t) x (low binary64)) h)) (odd_finite (hid binary64 + t) x)

-- up to the pattern of ten million the exponent's field is not all ones
low_field : (n : ℕ) → n ≤ 0x4163_12D0_0000_0000 → n % top binary64 / hid binary64 ≡ ones binary64 → ⊥
low_field n h e = omega arith

-- a pattern up to that of ten million is one of a finite amount
pub bits_finite : (n : ℕ) → n ≤ 0x4163_12D0_0000_0000 → Finite (of_bits binary64 n)
unfolding of_bits
bits_finite n h =
    let x = n % top binary64 / hid binary64 in
    let t = n % hid binary64 in
    let sign = is_false (leb (top binary64) n) (not_T (leb (top binary64) n) (λ g. let k = leb→le (top binary64) n g in omega arith)) in
    subst (λ (b : Bool). T (fits binary64 (of_fields binary64 b x t)) → Finite (of_fields binary64 b x t)) (sym sign)
    (fields_finite x t (not_T (eqb x (ones binary64)) (λ g. low_field n h (eqb→eq x (ones binary64) g)))) (of_bits-fits binary64 n)

-- a product of two finite amounts is an amount
pub mul_amount : (x y : Float) → Finite x → Finite y → Amount (mul binary64 x y)
unfolding mul
mul_amount x y p q = go (to_number x p) (to_number y q)
  where
    go : {a b : Float} → Number a → Number b → Amount (mul binary64 a b)
    go (number {m} {e} s) (number {m = n} {e = d} t) = round_amount (m * up e * (n * up d)) (down e * down d)

-- a number above 0 fails the test for 0
above_zero : (n : ℕ) → 0 < n → T (not (eqb n 0))
above_zero n h = not_T (eqb n 0) (λ t. lt_irrefl 0 (subst (λ (k : ℕ). 0 < k) (eqb→eq n 0 t) h))

-- an amount divided by a finite amount above 0 is an amount
pub div_amount : (x y : Float) → Amount x → Finite y → T (lt f0 y) → Amount (div binary64 x y)
unfolding rank of_bits amount div
div_amount x y p q h = go (to_kind x p) (to_number y q) (lt_rank f0 y zero_amount (finite_amount y q) h)
  where
    go : {a b : Float} → Kind a → Number b → rank f0 < rank b → Amount (div binary64 a b)
    go endless (number t) h = tt
    go (ended {m} {e} s) (number {m = n} {e = d} t) h =
        subst (λ (z : Float). Amount z)
        (sym (cond_no (eqb n 0) (cond (eqb m 0) nan (inf false)) (round binary64 false (m * up e * down d) (n * up d * down e)) (above_zero n (first_pos n (2 ^ place (low binary64) d) h))))
        (round_amount (m * up e * down d) (n * up d * down e))

-- an amount that is at most 1 is a portion
pub amount_portion : (x : Float) → Amount x → T (le x f1) → Portion x
unfolding measured amount le of_bits
amount_portion x p h = go (to_kind x p) p h
  where
    go : {a : Float} → Kind a → Amount a → T (le a f1) → Portion a
    go endless p h = absurd h
    go (ended s) p h = record { finite = p; within = h }

-- 0 is a portion
pub zero_portion : Portion f0
zero_portion = amount_portion f0 zero_amount (rank_le f0 f1 zero_amount one_amount (zero_rank f1))

-- 1 is a portion
pub one_portion : Portion f1
one_portion = amount_portion f1 one_amount (rank_le f1 f1 one_amount one_amount (le_refl _))

-- a fraction that is at most 1 rounds to a portion
round_portion : (a b : ℕ) → 0 < b → a ≤ b → Portion (round binary64 false a b)
unfolding round of_bits
round_portion a b B h = amount_portion (round binary64 false a b) (round_amount a b) (round_mono binary64 a b 1 1 B (zero-lt-suc 0) (omega arith))

-- a finite value that is at most 1 is a fraction that is
within_one : (m : ℕ) (e : ℤ) → T (le (fin false m e) f1) → m * up e ≤ down e
unfolding le of_bits
within_one m e h = let k = or_le (m * up e * 1) (1 * down e) h in omega arith

-- a difference a / c - b / c that is not below 0 is finite, where a / c is at most 1
sum_finite : (a b c : ℕ) → 0 < c → a ≤ c → (T (ltb a b) → ⊥) → Finite (sum binary64 false a true b c)
unfolding sum
sum_finite a b c C h = go (ltb a b)
  where
    go : (t : Bool) → (T t → ⊥) → Finite (cond t (round binary64 true (b - a) c) (round binary64 false (a - b) c))
    go true f = absurd (f tt)
    go false f = (round_portion (a - b) c C (le_trans (sub-le a b) h)).finite

-- what a portion leaves of 1 is finite
pub rest_finite : (x : Float) → Portion x → Finite (sub binary64 f1 x)
unfolding sub of_bits
rest_finite x p = go (to_number x p.finite) p.within
  where
    go : {a : Float} → Number a → T (le a f1) → Finite (sub binary64 f1 a)
    go (number {m} {e} s) h =
        sum_finite (1 * down e) (m * up e * 1) (1 * down e) (mul-pos (zero-lt-suc 0) (down_pos e)) (le_refl _)
        (λ t. let k = ltb→lt (1 * down e) (m * up e * 1) t in let l = within_one m e h in omega arith)

-- `le` of a value with the sign set and a zero, as it computes
signed_le : (a b : ℕ) → b ≡ 0 → T (ltb 0 (a + b) || (eqb a b && eqb a 0))
signed_le zero b h = subst (λ (k : ℕ). T (ltb 0 (0 + k) || (eqb 0 k && true))) (sym h) tt
signed_le (suc a) b h =
    subst (λ (t : Bool). T (t || (eqb (suc a) b && eqb (suc a) 0))) (sym (is_true (ltb 0 (suc a + b)) (lt→ltb 0 (suc a + b) (omega arith)))) tt

-- a finite value with the sign set is at most 0
signed_most : (m : ℕ) (e : ℤ) → T (le (fin true m e) f0)
unfolding le of_bits
signed_most m e = signed_le (m * up e * 1) (0 * down e) (zero-mul (down e))

-- `odd` with the sign set gives at most 0
odd_most : (q k : ℕ) → T (le (odd (suc (prec binary64)) true q k (low binary64)) f0)
unfolding odd
odd_most zero k = signed_most _ _
odd_most (suc q) k = signed_most _ _

-- a fraction with the sign set rounds to at most 0
round_most : (a b : ℕ) → T (le (round binary64 true a b) f0)
unfolding round le of_bits
round_most a b =
    let n = a * 2 ^ low binary64 in
    let k = size (n / b) - prec binary64 in
    let u = b * 2 ^ k in
    let q = nearest (n / u) (compare (n % u * 2) u) in
    go (ltb (q * 2 ^ k) (2 ^ (low binary64 + suc (emax binary64)))) q k
  where
    go : (t : Bool) (q k : ℕ) → T (le (cond t (odd (suc (prec binary64)) true q k (low binary64)) (inf true)) f0)
    go true q k = odd_most q k
    go false q k = tt

-- a difference a / c - b / c that is below 0 rounds to at most 0
sum_most : (a b c : ℕ) → T (ltb a b) → T (le (sum binary64 false a true b c) f0)
unfolding sum
sum_most a b c = go (ltb a b)
  where
    go : (t : Bool) → T t → T (le (cond t (round binary64 true (b - a) c) (round binary64 false (a - b) c)) f0)
    go true f = round_most (b - a) c
    go false f = absurd f

-- a gap between two portions that is above 0 is finite
pub gap_finite : (a b : Float) → Portion a → Portion b → T (not (le (sub binary64 b a) f0)) → Finite (sub binary64 b a)
unfolding sub
gap_finite a b p q = go (to_number a p.finite) (to_number b q.finite) q.within
  where
    go : {a b : Float} → Number a → Number b → T (le b f1) → T (not (le (sub binary64 b a) f0)) → Finite (sub binary64 b a)
    go (number {m} {e} s) (number {m = n} {e = d} t) w h =
        let a = n * up d * down e in
        let b = m * up e * down d in
        let c = down d * down e in
        sum_finite a b c (mul-pos (down_pos d) (down_pos e)) (mul-le-mul_right (down e) (within_one n d w)) (λ g. T_not (le (sum binary64 false a true b c) f0) h (sum_most a b c g))

-- an amount held between 0 and 1 is a portion
clamp_portion : (q : Float) → Amount q → Portion (cond (lt q f0) f0 (cond (lt f1 q) f1 q))
clamp_portion q p = low_end (lt q f0)
  where
    high_end : (b : Bool) → (T (not b) → T (not (lt f1 q))) → Portion (cond b f1 q)
    high_end true f = one_portion
    high_end false f = amount_portion q p (rank_le q f1 p one_amount (nlt_rank f1 q one_amount p (f tt)))

    low_end : (b : Bool) → Portion (cond b f0 (cond (lt f1 q) f1 q))
    low_end true = zero_portion
    low_end false = high_end (lt f1 q) (λ t. t)

-- how far along a line a point is, held between 0 and 1, is a portion; it is 0 on a line of no length
pub held_portion : (along line : Float) → Finite along → Finite line → Portion (cond (lt f0 line) (let q = div binary64 along line in cond (lt q f0) f0 (cond (lt f1 q) f1 q)) f0)
held_portion along line p q = go (lt f0 line) (λ t. t)
  where
    go : (b : Bool) → (T b → T (lt f0 line)) → Portion (cond b (let q = div binary64 along line in cond (lt q f0) f0 (cond (lt f1 q) f1 q)) f0)
    go true f = clamp_portion (div binary64 along line) (div_amount along line (finite_amount along p) q (f tt))
    go false f = zero_portion

-- 0 plus a finite amount ranks no lower than it
add_zero_rank : (x : Float) → Finite x → rank x ≤ rank (add binary64 f0 x)
unfolding add of_bits
add_zero_rank x p = go (to_number x p)
  where
    go : {a : Float} → Number a → rank a ≤ rank (add binary64 f0 a)
    go (number {m} {e} s) = round_rank m e (0 * down e + m * up e * 1) (1 * down e) s (mul-pos (zero-lt-suc 0) (down_pos e)) (omega arith)

-- an amount that is not 0 is not at most 0
not_most : (x : Float) → Amount x → T (not (eq x f0)) → T (le x f0) → ⊥
unfolding le
not_most x p n = go (lt x f0) (λ t. not-le_of_lt (lt_rank x f0 p zero_amount t) (zero_rank x))
  where
    go : (b : Bool) → (T b → ⊥) → T (b || eq x f0) → ⊥
    go true f t = f tt
    go false f t = T_not (eq x f0) n t

-- a test that cannot fail passes
stable : (b : Bool) → (T (not b) → ⊥) → T b
stable true f = tt
stable false f = f tt

-- 0 plus a finite amount that is not 0 is above 0
pub sum_above : (x : Float) → Finite x → T (not (eq x f0)) → T (lt f0 (add binary64 f0 x))
sum_above x p n =
    let q = finite_amount x p in
    let z = add binary64 f0 x in
    stable (lt f0 z) (λ t. not_most x q n (rank_le x f0 q zero_amount (le_trans (add_zero_rank x p) (nlt_rank f0 z zero_amount (add_amount f0 x zero_amount q) t))))
