-- A record judged as a whole: what the code compares at once says that every field is good.
use Rattle.std.proofs.Common.{◌≡◌, ℕ, ◌+◌, ◌<◌, ◌≤◌, List, Ok, arith}
use Rattle.model.specs.Bytes.{u8_at, u16_at, u32_at, u64_at}
use Rattle.model.specs.Table.{check, check_then, fields_alike, need, most_f64, most_bearing}
use Rattle.model.specs.Judge.{road_table, row_table}

-- four bytes that make 0
spare_four : (s : List ℕ) (at : ℕ) → u32_at s at ≡ 0 → (u8_at s at ≡ 0) × (u8_at s (at + 1) ≡ 0) × (u8_at s (at + 2) ≡ 0) × (u8_at s (at + 3) ≡ 0)
unfolding u32_at u16_at
spare_four s at e = (grind arith, grind arith, grind arith, grind arith)

-- a flag of 0 or 1 and five zeros, behind two bytes
flag_and_zeros : (s : List ℕ) (at : ℕ) → u64_at s at < 0x2_0000 → (u8_at s (at + 2) ≤ 1) × (u8_at s (at + 3) ≡ 0) × (u8_at s (at + 4) ≡ 0) × (u8_at s (at + 5) ≡ 0) × (u8_at s (at + 6) ≡ 0) × (u8_at s (at + 7) ≡ 0)
unfolding u64_at u32_at u16_at
flag_and_zeros s at l = (grind arith, grind arith, grind arith, grind arith, grind arith, grind arith)

module _ (s : List ℕ) (at n : ℕ) where
  pub road_whole : u64_at s (at + 8) ≤ most_f64 → u32_at s (at + 16) < n → u32_at s (at + 20) < n → u64_at s (at + 24) < 0x2_0000 → u8_at s (at + 24) ≤ 7 → u8_at s (at + 25) ≤ 7 → Ok tt ≡ check s at (road_table n)
  unfolding road_table check_then fields_alike need
  road_whole metres source target rest frc fow =
      let z = flag_and_zeros s (at + 24) rest in
      grind (arith, z)

  pub row_whole : u32_at s at < n → u32_at s (at + 4) ≡ 0 → u64_at s (at + 8) ≤ most_f64 → u64_at s (at + 16) ≤ most_bearing → u64_at s (at + 24) ≤ most_f64 → u64_at s (at + 32) ≤ most_f64 → Ok tt ≡ check s at (row_table n)
  unfolding row_table check_then fields_alike need
  row_whole road spare distance turn along line =
      let z = spare_four s (at + 4) spare in
      grind (arith, z)
