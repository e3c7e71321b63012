-- Numbers one behind the other, read as arrays of their bytes.
use Rattle.std.proofs.Common.{◌≡◌, ℕ, zero, suc, ◌+◌, ◌-◌, ◌*◌, ◌<◌, ◌≤◌, List, [], take, drop, get_or, length, ◌/◌, ◌∙◌, arith, add_comm, suc-mul, zero-mul}
use Rattle.std.proofs.lemmas.List.{drop-drop, drop-take, take-take, length-take-le, length-drop}
use Rattle.std.proofs.Math.Nat.{mul-div_cancel}
use Rattle.std.specs.List.{slice_range}
use Rattle.std.specs.Int.{w32, w64, from_le_bytes}
use Rattle.std.specs.Simd.{first_chunks}
use Rattle.model.specs.Bytes.{u16_at, u32_at, u64_at, section}
use Rattle.model.proofs.Turns.{below_times}
use Rattle.model.proofs.Sections.{u32_section, u64_section}

-- chunk i of k
chunk_at : (n k i : ℕ) (xs : List ℕ) → i < k → get_or (first_chunks n k xs) i [] ≡ take n (drop (i * n) xs)
chunk_at n zero i xs l = elim l [ ]
chunk_at n (suc k) zero xs l = rw zero-mul
chunk_at n (suc k) (suc i) xs l = rw (chunk_at n k i (drop n xs) (omega arith), drop-drop, suc-mul, add_comm n (i * n))

-- it lies in the first k * n elements
within : (n k i : ℕ) (xs : List ℕ) → i < k → take n (drop (i * n) (take (k * n) xs)) ≡ take n (drop (i * n) xs)
within n k i xs l =
    let fits = below_times i k n l in
    let parts : k * n ≡ i * n + (k * n - i * n) = omega (arith, fits) in
    rw (parts, drop-take) (take-take n _ _ (omega (arith, fits)))

-- ---- k numbers of n bytes each, from `at` on

pub word_count : (s : List ℕ) (n at k : ℕ) → 0 < n → at + k * n ≤ length s → length (slice_range s at (at + k * n)) / n ≡ k
word_count s n at k some fits =
    let size : at + k * n - at ≡ k * n = omega arith in
    rw (size, length-take-le (k * n) (drop at s) (omega (arith, length-drop at s))) (mul-div_cancel k some)

-- the bytes of number i of the k that begin at `at`
pub word_at : (s : List ℕ) (n at k i : ℕ) → i < k → get_or (first_chunks n k (slice_range s at (at + k * n))) i [] ≡ section (at + i * n) n s
word_at s n at k i l =
    let size : at + k * n - at ≡ k * n = omega arith in
    rw (size, chunk_at n k i _ l, within n k i _ l, drop-drop)

module _ (xs : List ℕ) where
  u32_whole : from_le_bytes w32 xs ≡ u32_at xs 0
  unfolding u32_at u16_at
  u32_whole = grind arith

  u64_whole : from_le_bytes w64 xs ≡ u64_at xs 0
  unfolding u64_at u32_at u16_at
  u64_whole = grind arith

module _ (s : List ℕ) (at : ℕ) where
  pub u32_word : from_le_bytes w32 (section at 4 s) ≡ u32_at s at
  u32_word = u32_whole _ ∙ u32_section s at 4 0 at (omega arith) (omega arith)

  pub u64_word : from_le_bytes w64 (section at 8 s) ≡ u64_at s at
  u64_word = u64_whole _ ∙ u64_section s at 8 0 at (omega arith) (omega arith)
