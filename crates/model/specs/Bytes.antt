-- Little-endian numbers at an offset of a byte sequence. A byte past the end counts as 0; the code reads none.
use Rattle.std.specs.Prelude.{ℕ, ◌+◌, ◌*◌, List, get_or, take, drop, Float}
use Rattle.model.specs.Numbers.{bits}

abbrev pub u8_at : List ℕ → ℕ → ℕ
u8_at s at = get_or s at 0

unfoldable pub u16_at : List ℕ → ℕ → ℕ
u16_at s at = u8_at s at + 0x100 * u8_at s (at + 1)

unfoldable pub u32_at : List ℕ → ℕ → ℕ
u32_at s at = u16_at s at + 0x1_0000 * u16_at s (at + 2)

unfoldable pub u64_at : List ℕ → ℕ → ℕ
u64_at s at = u32_at s at + 0x1_0000_0000 * u32_at s (at + 4)

unfoldable pub f64_at : List ℕ → ℕ → Float
f64_at s at = bits (u64_at s at)

-- n bytes from `at`
abbrev pub section : ℕ → ℕ → List ℕ → List ℕ
section at n s = take n (drop at s)
