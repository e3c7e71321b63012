-- A number in a section is the number in the whole, where it lies within the section.
use Prim.Native.Nat.{ℕ, ◌+◌, ◌≤◌, ◌<◌}
use mathlib.Core.Path.{◌≡◌, sym, ap}
use mathlib.Core.List.{List}
use native.Mathlib.Omega.{arith}
use lib.ListN.{length, length-drop}
use lib.Seq.{get_or-take, get_or-drop, length-take-le}
use Rattle.model.specs.Numbers.{bits}
use Rattle.model.specs.Bytes.{u8_at, u16_at, u32_at, u64_at, f64_at, section}

module _ (s : List ℕ) (b n : ℕ) where
  -- all of its bytes are there
  pub section_length : b + n ≤ length s → length (section b n s) ≡ n
  section_length h = length-take-le n _ (omega (arith, length-drop b s))

  -- n bytes from b on; k is where the number begins in the whole
  pub u8_section : (o k : ℕ) → o < n → k ≡ b + o → u8_at (section b n s) o ≡ u8_at s k
  u8_section o k h e = rw (get_or-take, get_or-drop) (ap (u8_at s) (sym e))

  pub u16_section : (o k : ℕ) → o + 2 ≤ n → k ≡ b + o → u16_at (section b n s) o ≡ u16_at s k
  unfolding u16_at
  u16_section o k h e = rw (u8_section o k (omega arith) e, u8_section (o + 1) (k + 1) (omega arith) (omega arith))

  pub u32_section : (o k : ℕ) → o + 4 ≤ n → k ≡ b + o → u32_at (section b n s) o ≡ u32_at s k
  unfolding u32_at
  u32_section o k h e = rw (u16_section o k (omega arith) e, u16_section (o + 2) (k + 2) (omega arith) (omega arith))

  pub u64_section : (o k : ℕ) → o + 8 ≤ n → k ≡ b + o → u64_at (section b n s) o ≡ u64_at s k
  unfolding u64_at
  u64_section o k h e = rw (u32_section o k (omega arith) e, u32_section (o + 4) (k + 4) (omega arith) (omega arith))

  pub f64_section : (o k : ℕ) → o + 8 ≤ n → k ≡ b + o → f64_at (section b n s) o ≡ f64_at s k
  unfolding f64_at
  f64_section o k h e = ap bits (u64_section o k h e)
