-- Amounts compare as whole numbers do, their ranks; a sum of two is an amount that ranks no lower than the first.
use Prim.Native.Nat.{ℕ, zero, suc, ◌+◌, ◌-◌, ◌*◌, ◌/◌, ◌%◌, ◌^◌, ◌≤◌, ◌<◌, compare}
use mathlib.Core.Path.{◌≡◌, refl, sym, ap, ◌∙◌, subst}
use mathlib.Core.Bool.{Bool, true, false, not, ◌&&◌, ◌||◌, cond}
use native.Mathlib.Nat.{le_refl, le_trans, le_of_eq, le_of_lt, lt_of_not-le, not-le_of_lt, zero-mul, one-mul, mul-one, mul_comm, mul_assoc, mul_right_comm, mul-le-mul_right, mul-lt-mul_of_pos_right, le_of_mul-le-mul_right, lt_of_mul-lt-mul_right, mul-pos}
use native.Mathlib.Omega.{arith}
use lib.Dec.{T, T_not, eqb, ltb, leb, eqb→eq, ltb→lt, leb→le, nltb→le}
use lib.IntN.{ℤ, pos, negsuc}
use lib.Pow.{pow_pos, pow-add, pow-lt}
use lib.Ieee.{Float, nan, inf, fin, binary64, prec, emax, low, up, down, size, nearest, odd, round, add, lt, le, fits}
use lib.Ieee.Fits.{and_l, and_r, down_pos, round-fits}
use lib.Ieee.Exact.{HasValue, round_exact}
use lib.Ieee.Order.{transfer, le_of_values, round_mono}
use Rattle.bounds.specs.Amounts.{measured, amount, Amount, Finite}

-- 2 ^ e in units of 2 ^ -l is 2 to this power
abbrev pub place : ℕ → ℤ → ℕ
place l (pos k) = k + l
place l (negsuc k) = l - suc k

-- an amount in units of the smallest value above 0; infinity is past every finite one
unfoldable pub rank : Float → ℕ
rank nan = 0
rank (inf s) = 2 ^ (low binary64 + suc (emax binary64))
rank (fin s m e) = m * 2 ^ place (low binary64) e

-- the bounds that `fits` puts on m * 2 ^ e
pub record Sized (m : ℕ) (e : ℤ) : Type 0 where
  pub small : m < 2 ^ prec binary64
  pub deep : down e ≤ 2 ^ low binary64
  pub under : m * up e < 2 ^ suc (emax binary64) * down e

-- the exponent that `fits` asks of zero is no fraction
one_down : (e : ℤ) → up e * down e ≡ 1 → down e ≤ 1
one_down (pos k) h = le_refl 1
one_down (negsuc k) h = le_of_eq (sym (one-mul (2 ^ suc k)) ∙ h)

-- the bounds, out of the test
sized : (m : ℕ) (e : ℤ) → T (fits binary64 (fin false m e)) → Sized m e
unfolding fits
sized zero e t = record {
  small = pow_pos (prec binary64);
  deep = le_trans (one_down e (eqb→eq (up e * down e) 1 t)) (pow_pos (low binary64));
  under = subst (λ (k : ℕ). k < 2 ^ suc (emax binary64) * down e) (sym (zero-mul (up e))) (mul-pos (pow_pos (suc (emax binary64))) (down_pos e));
}
sized (suc m) e t =
    let a = eqb (suc m % 2) 1 in
    let b = ltb (suc m) (2 ^ prec binary64) in
    let c = leb (down e) (2 ^ low binary64) in
    let d = ltb (suc m * up e) (2 ^ suc (emax binary64) * down e) in
    record {
      small = ltb→lt (suc m) (2 ^ prec binary64) (and_r a b (and_l (a && b) c (and_l (a && b && c) d t)));
      deep = leb→le (down e) (2 ^ low binary64) (and_r (a && b) c (and_l (a && b && c) d t));
      under = ltb→lt (suc m * up e) (2 ^ suc (emax binary64) * down e) (and_r (a && b && c) d t);
    }

-- a finite amount taken apart, so that a law has one case
pub data Number : Float → Type 0 where
  number : {m : ℕ} {e : ℤ} → Sized m e → Number (fin false m e)

-- every finite amount is taken apart so
pub to_number : (x : Float) → Finite x → Number x
unfolding measured
to_number nan p = absurd p
to_number (inf s) p = absurd p
to_number (fin true m e) p = absurd p
to_number (fin false m e) p = number (sized m e p)

-- an amount taken apart, so that a law has two cases
pub data Kind : Float → Type 0 where
  endless : Kind (inf false)
  ended : {m : ℕ} {e : ℤ} → Sized m e → Kind (fin false m e)

-- every amount is taken apart so
pub to_kind : (x : Float) → Amount x → Kind x
unfolding amount
to_kind nan p = absurd p
to_kind (inf true) p = absurd p
to_kind (inf false) p = endless
to_kind (fin true m e) p = absurd p
to_kind (fin false m e) p = ended (sized m e p)

-- the order of powers is that of exponents
pow_cancel : (i j : ℕ) → 2 ^ i ≤ 2 ^ j → i ≤ j
pow_cancel i j h = go (ltb j i) (ltb→lt j i) (nltb→le j i)
  where
    go : (b : Bool) → (T b → j < i) → (T (not b) → i ≤ j) → i ≤ j
    go true p q = absurd (not-le_of_lt (pow-lt (p tt)) h)
    go false p q = q tt

-- `place` is right: 2 ^ e is that many units
place_down : (l : ℕ) (e : ℤ) → down e ≤ 2 ^ l → 2 ^ place l e * down e ≡ up e * 2 ^ l
place_down l (pos k) h = mul-one (2 ^ (k + l)) ∙ pow-add 2 k l
place_down l (negsuc k) h =
    let c : suc k ≤ l = pow_cancel (suc k) l h in
    let b : l - suc k + suc k ≡ l = omega arith in
    sym (pow-add 2 (l - suc k) (suc k)) ∙ ap (λ (x : ℕ). 2 ^ x) b ∙ sym (one-mul (2 ^ l))

-- the rank by the units of 1 is the value
rank_down : (m : ℕ) (e : ℤ) → Sized m e → m * 2 ^ place (low binary64) e * down e ≡ m * up e * 2 ^ low binary64
rank_down m e h = mul_assoc m (2 ^ place (low binary64) e) (down e) ∙ ap (λ (x : ℕ). m * x) (place_down (low binary64) e h.deep) ∙ sym (mul_assoc m (up e) (2 ^ low binary64))

-- a finite amount ranks below infinity
rank_under : (m : ℕ) (e : ℤ) → Sized m e → m * 2 ^ place (low binary64) e < 2 ^ (low binary64 + suc (emax binary64))
rank_under m e h =
    let l = 2 ^ low binary64 in
    let u = 2 ^ suc (emax binary64) in
    lt_of_mul-lt-mul_right (down e)
    (subst (λ (x : ℕ). x < 2 ^ (low binary64 + suc (emax binary64)) * down e) (sym (rank_down m e h))
    (subst (λ (x : ℕ). m * up e * l < x) (mul_right_comm u (down e) l ∙ ap (λ (x : ℕ). x * down e) (mul_comm u l ∙ sym (pow-add 2 (low binary64) (suc (emax binary64)))))
    (mul-lt-mul_of_pos_right h.under (pow_pos (low binary64)))))

-- the order of two values as fractions is that of their ranks
cross_rank : (m : ℕ) (e : ℤ) (n : ℕ) (d : ℤ) → Sized m e → Sized n d → m * up e * down d ≤ n * up d * down e → m * 2 ^ place (low binary64) e ≤ n * 2 ^ place (low binary64) d
cross_rank m e n d s t h =
    let l = 2 ^ low binary64 in
    le_of_mul-le-mul_right
    (transfer (m * 2 ^ place (low binary64) e) (n * 2 ^ place (low binary64) d) l l (m * up e) (n * up d) (down e) (down d) (down_pos e) (down_pos d) (rank_down m e s) (rank_down n d t) h)
    (pow_pos (low binary64))

-- `le` of two values with the sign clear, as it computes
pub or_le : (a b : ℕ) → T (ltb a b || (eqb a b && true)) → a ≤ b
or_le a b = go (ltb a b) (ltb→lt a b)
  where
    go : (x : Bool) → (T x → a < b) → T (x || (eqb a b && true)) → a ≤ b
    go true p t = le_of_lt (p tt)
    go false p t = le_of_eq (eqb→eq a b (and_l (eqb a b) true t))

-- `le_rank` of amounts taken apart, for those not known to fit
le_rank_kind : {x y : Float} → Kind x → Kind y → T (le x y) → rank x ≤ rank y
unfolding rank le
le_rank_kind endless endless h = le_refl _
le_rank_kind endless (ended t) h = absurd h
le_rank_kind (ended {m} {e} s) endless h = le_of_lt (rank_under m e s)
le_rank_kind (ended {m} {e} s) (ended {m = n} {e = d} t) h = cross_rank m e n d s t (or_le (m * up e * down d) (n * up d * down e) h)

-- an amount that is at most another ranks no higher
pub le_rank : (x y : Float) → Amount x → Amount y → T (le x y) → rank x ≤ rank y
le_rank x y p q = le_rank_kind (to_kind x p) (to_kind y q)

-- an amount that ranks no higher than another is at most it
pub rank_le : (x y : Float) → Amount x → Amount y → rank x ≤ rank y → T (le x y)
unfolding rank le
rank_le x y p q = go (to_kind x p) (to_kind y q)
  where
    go : {a b : Float} → Kind a → Kind b → rank a ≤ rank b → T (le a b)
    go endless endless h = tt
    go endless (ended {m = n} {e = d} t) h = absurd (not-le_of_lt (rank_under n d t) h)
    go (ended s) endless h = tt
    go (ended {m} {e} s) (ended {m = n} {e = d} t) h =
        let l = 2 ^ low binary64 in
        le_of_values (fin false m e) (fin false n d) (m * 2 ^ place (low binary64) e) l (n * 2 ^ place (low binary64) d) l (pow_pos (low binary64)) (pow_pos (low binary64))
        (refl, sym (rank_down m e s)) (refl, sym (rank_down n d t)) (mul-le-mul_right l h)

-- an amount that is not below another ranks no lower
pub nlt_rank : (x y : Float) → Amount x → Amount y → T (not (lt x y)) → rank y ≤ rank x
unfolding rank lt
nlt_rank x y p q = go (to_kind x p) (to_kind y q)
  where
    go : {a b : Float} → Kind a → Kind b → T (not (lt a b)) → rank b ≤ rank a
    go endless endless h = le_refl _
    go endless (ended {m = n} {e = d} t) h = le_of_lt (rank_under n d t)
    go (ended s) endless h = absurd h
    go (ended {m} {e} s) (ended {m = n} {e = d} t) h = cross_rank n d m e t s (nltb→le (m * up e * down d) (n * up d * down e) h)

-- no amount is below one that is at most it
lt_not_le : (x y : Float) → Amount x → Amount y → T (lt x y) → T (le y x) → ⊥
unfolding lt le
lt_not_le x y p q = go (to_kind x p) (to_kind y q)
  where
    go : {a b : Float} → Kind a → Kind b → T (lt a b) → T (le b a) → ⊥
    go endless endless h k = h
    go endless (ended t) h k = h
    go (ended s) endless h k = k
    go (ended {m} {e} s) (ended {m = n} {e = d} t) h k = not-le_of_lt (ltb→lt (m * up e * down d) (n * up d * down e) h) (or_le (n * up d * down e) (m * up e * down d) k)

-- an amount that is below another ranks lower
pub lt_rank : (x y : Float) → Amount x → Amount y → T (lt x y) → rank x < rank y
lt_rank x y p q h = lt_of_not-le (λ g. lt_not_le x y p q h (rank_le y x q p g))

-- an amount that is not at most another ranks higher
pub nle_rank : (x y : Float) → Amount x → Amount y → T (not (le x y)) → rank y < rank x
nle_rank x y p q h = lt_of_not-le (λ g. T_not (le x y) h (rank_le x y p q g))

-- a fraction rounds to an amount
pub round_amount : (a b : ℕ) → Amount (round binary64 false a b)
unfolding amount round
round_amount a b =
    let n = a * 2 ^ low binary64 in
    let k = size (n / b) - prec binary64 in
    let u = b * 2 ^ k in
    let q = nearest (n / u) (compare (n % u * 2) u) in
    go (ltb (q * 2 ^ k) (2 ^ (low binary64 + suc (emax binary64)))) q k (round-fits binary64 false a b)
  where
    go : (t : Bool) (q k : ℕ) → T (fits binary64 (cond t (odd (suc (prec binary64)) false q k (low binary64)) (inf false))) → Amount (cond t (odd (suc (prec binary64)) false q k (low binary64)) (inf false))
    go true zero k f = f
    go true (suc q) k f = f
    go false q k f = tt

-- a fraction that is at least a finite amount rounds to one that ranks no lower
pub round_rank : (m : ℕ) (e : ℤ) (a b : ℕ) → Sized m e → 0 < b → m * up e * b ≤ a * down e → rank (fin false m e) ≤ rank (round binary64 false a b)
round_rank m e a b s B h =
    let v = m * up e in
    let w = round binary64 false v (down e) in
    let same : HasValue w false v (down e) = round_exact binary64 false v (down e) m (place (low binary64) e) (down_pos e) s.small (rank_under m e s) (sym (rank_down m e s)) in
    le_trans
    (le_rank_kind (ended s) (to_kind w (round_amount v (down e))) (le_of_values (fin false m e) w v (down e) v (down e) (down_pos e) (down_pos e) (refl, refl) same (le_refl _)))
    (le_rank w (round binary64 false a b) (round_amount v (down e)) (round_amount a b) (round_mono binary64 v (down e) a b (down_pos e) B h))

-- a sum of two amounts is an amount
pub add_amount : (x y : Float) → Amount x → Amount y → Amount (add binary64 x y)
unfolding amount add
add_amount x y p q = go (to_kind x p) (to_kind y q)
  where
    go : {a b : Float} → Kind a → Kind b → Amount (add binary64 a b)
    go endless endless = tt
    go endless (ended t) = tt
    go (ended s) endless = tt
    go (ended {m} {e} s) (ended {m = n} {e = d} t) = round_amount (m * up e * down d + n * up d * down e) (down e * down d)

-- the first summand as a fraction is at most the sum
first_part : (a b c d : ℕ) → a * (c * d) ≤ (a * d + b) * c
first_part a b c d = omega arith

-- a sum of two amounts ranks no lower than the first
pub add_rank : (x y : Float) → Amount x → Amount y → rank x ≤ rank (add binary64 x y)
unfolding rank add
add_rank x y p q = go (to_kind x p) (to_kind y q)
  where
    go : {a b : Float} → Kind a → Kind b → rank a ≤ rank (add binary64 a b)
    go endless endless = le_refl _
    go endless (ended t) = le_refl _
    go (ended {m} {e} s) endless = le_of_lt (rank_under m e s)
    go (ended {m} {e} s) (ended {m = n} {e = d} t) =
        round_rank m e (m * up e * down d + n * up d * down e) (down e * down d) s (mul-pos (down_pos e) (down_pos d)) (first_part (m * up e) (n * up d * down e) (down e) (down d))
