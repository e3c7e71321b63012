-- Digits as the toolchain's functions give them are those of the definition; how many there are.
use Prim.Native.Nat.{ℕ, zero, suc, ◌-◌, ◌/◌, ◌%◌, ◌^◌, ◌≤◌, ◌<◌}
use native.Mathlib.Nat.{pow-suc, pow-le-pow_right, le-div_iff_mul-le, div-lt_iff_lt-mul, le_of_suc-le-suc, not-suc-le-zero}
use native.Mathlib.Omega.{arith}
use mathlib.Core.Path.{◌≡◌, refl, ap, subst, ◌∙◌}
use mathlib.Core.Bool.{Bool, true, false, cond}
use mathlib.Core.List.{List, [], ◌∷◌, ◌++◌}
use lib.Dec.{ltb}
use lib.Ieee.{Float, binary64, is_nan, to_bits}
use lib.ListN.{length, take, length-append}
use borrow.Author.Tests.{lt-ltb, le-ltb}
use Rattle.io.specs.Digits.{hex_digit_ascii, last_digits, IsDigitCount}
use Rattle.text.specs.Text.{ascii, decimal_within, bits_of}

-- ten or more: the last digit, behind those of the tenth
module _ (n k : ℕ) (few : IsDigitCount 10 1 n (suc (suc k))) where
  more : 10 ^ (suc k) ≤ n
  more = let e : suc (suc k) - 1 ≡ suc k = omega arith in subst (λ (j : ℕ). 10 ^ j ≤ n) e (few.2 (omega arith))

  ten : 10 ≤ n
  ten =
      let p : 10 ^ 1 ≤ 10 ^ (suc k) = pow-le-pow_right {n = 10} (omega arith) {i = 1} {j = suc k} (omega arith) in
      omega (arith, p, more)

  tenth : IsDigitCount 10 1 (n / 10) (suc k)
  tenth = (
    omega arith,
    (div-lt_iff_lt-mul {k = 10} {x = n} {y = 10 ^ (suc k)} (omega arith)).1 (subst (λ (p : ℕ). n < p) (pow-suc 10 (suc k)) few.1),
    λ _.
        let e : k ≡ suc k - 1 = omega arith in
        subst (λ (j : ℕ). 10 ^ j ≤ n / 10) e ((le-div_iff_mul-le {k = 10} {x = 10 ^ k} {y = n} (omega arith)).1 (subst (λ (p : ℕ). p ≤ n) (pow-suc 10 k) more)),
  )

-- the fewest digits that hold n
pub fewest_decimal : (k most n : ℕ) → IsDigitCount 10 1 n k → k ≤ most → last_digits 10 k n ≡ decimal_within most n
unfolding decimal_within
fewest_decimal zero most n few h = absurd (not-suc-le-zero few.0)
fewest_decimal (suc k) zero n few h = absurd (not-suc-le-zero h)
fewest_decimal (suc zero) (suc most) n few h =
    let small : ltb n 10 ≡ true = lt-ltb n 10 few.1 in
    rw small
fewest_decimal (suc (suc k)) (suc most) n few h =
    let large : ltb n 10 ≡ false = le-ltb n 10 (ten n k few) in
    rw (large, ← fewest_decimal (suc k) most (n / 10) (tenth n k few) (le_of_suc-le-suc h))

one_more : (b : Bool) (xs : List ℕ) (x k : ℕ) → length xs ≤ k → length (cond b [] xs ++ x ∷ []) ≤ suc k
one_more true xs x k h = omega arith
one_more false xs x k h = simp length-append (omega arith)

pub decimal_length : (k n : ℕ) → length (decimal_within k n) ≤ k
unfolding decimal_within
decimal_length zero n = omega arith
decimal_length (suc k) n = one_more (ltb n 10) (decimal_within k (n / 10)) (hex_digit_ascii (n % 10)) k (decimal_length k (n / 10))

digits_length : (b k n : ℕ) → length (last_digits b k n) ≡ k
digits_length b zero n = refl
digits_length b (suc k) n = simp length-append (omega (arith, digits_length b k (n / b)))

either_length : (b : Bool) (xs ys : List ℕ) (k : ℕ) → length xs ≤ k → length ys ≤ k → length (cond b xs ys) ≤ k
either_length true xs ys k h g = h
either_length false xs ys k h g = g

pub bits_length : (x : Float) → length (bits_of x) ≤ 16
unfolding bits_of ascii
bits_length x = either_length (is_nan x) _ _ 16 (omega arith) (omega (arith, digits_length 16 16 (to_bits binary64 x)))

-- all sixteen digits, as the toolchain's `hex` leaves them
pub hex_is : (n k : ℕ) (out : List ℕ) → k ≡ 16 → take k out ≡ last_digits 16 k n → take k out ≡ last_digits 16 16 n
hex_is n k out all is = is ∙ ap (λ (m : ℕ). last_digits 16 m n) all
