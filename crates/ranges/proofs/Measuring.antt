-- A run of numbers judged all at once: what is found of their bytes says that every record is good.
use Rattle.std.proofs.Common.{◌≡◌, ℕ, ◌+◌, ◌-◌, ◌*◌, ◌%◌, ◌^◌, ◌<◌, ◌≤◌, List, [], length, get_or, Ok, arith}
use lib.Bits.{bit_or, or_add_and, and_le_l, and_le_r}
use Rattle.std.specs.List.{All}
use Rattle.std.specs.Int.{w32, w64, from_le_bytes}
use Rattle.std.proofs.lemmas.List.Elements.{All-get_or}
use Rattle.model.specs.Bytes.{section, u32_at, u64_at}
use Rattle.model.specs.Table.{check_then, need, records, most_f64}
use Rattle.model.specs.Judge.{distance_table, number_table}
use Rattle.fields.proofs.Chunks.{u32_word, u64_word}
use Rattle.ranges.proofs.Running.{records_good}

or_first : (a b : ℕ) → a ≤ bit_or a b
or_first a b = omega (arith, or_add_and a b, and_le_r a b)

or_last : (a b : ℕ) → b ≤ bit_or a b
or_last a b = omega (arith, or_add_and a b, and_le_l a b)

-- the top bit is clear in all of three: what was gathered before, v, and the greatest measure less v
pub clear_measured : (all v : ℕ) → v < 2 ^ 64 → bit_or all (bit_or v ((most_f64 + (2 ^ 64 - v)) % 2 ^ 64)) < 2 ^ 63 → (all < 2 ^ 63) × (v ≤ most_f64)
clear_measured all v fits h =
    let w : ℕ = (most_f64 + (2 ^ 64 - v)) % 2 ^ 64 in
    let a = or_first all (bit_or v w) in
    let b = or_last all (bit_or v w) in
    let c = or_first v w in
    let d = or_last v w in
    (omega arith, omega arith)

module _ (s : List ℕ) (base k : ℕ) (words : List (List ℕ)) (count : length words ≡ k) where
  pub numbers_good : (n : ℕ) → ((i : ℕ) → i < k → get_or words i [] ≡ section (base + i * 4) 4 s) → All (λ w. from_le_bytes w32 w < n) words → Ok tt ≡ records s 4 (number_table n) k base
  unfolding number_table check_then need
  numbers_good n each good =
      records_good s 4 (number_table n) k base
      (λ j l.
      let here : u32_at s (base + j * 4) < n = rw (← u32_word s (base + j * 4), ← each j l) (All-get_or (λ w. from_le_bytes w32 w < n) words j [] (omega arith) good) in
      grind arith)

  pub measures_good : ((i : ℕ) → i < k → get_or words i [] ≡ section (base + i * 8) 8 s) → All (λ w. from_le_bytes w64 w ≤ most_f64) words → Ok tt ≡ records s 8 distance_table k base
  unfolding distance_table check_then need
  measures_good each good =
      records_good s 8 distance_table k base
      (λ j l.
      let here : u64_at s (base + j * 8) ≤ most_f64 = rw (← u64_word s (base + j * 8), ← each j l) (All-get_or (λ w. from_le_bytes w64 w ≤ most_f64) words j [] (omega arith) good) in
      grind arith)
