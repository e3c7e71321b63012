-- Sheets for the examples: the bytes of a sheet from its parts.
use Rattle.std.specs.Prelude.{ℕ, zero, suc, ◌/◌, ◌%◌, List, [], ◌∷◌, ◌++◌, map, length}
use Rattle.std.specs.Float.{binary64}
use Rattle.std.specs.Float.Ieee.{to_bits}
use Rattle.model.specs.declared.Counts.{Counts}
use Rattle.model.specs.Numbers.{nat}
use Rattle.model.specs.Layout.{roads_at, lists_at, rows_at, distances_at, total}

-- v in k bytes
unfoldable pub le_bytes : ℕ → ℕ → List ℕ
le_bytes zero v = []
le_bytes (suc k) v = v % 256 ∷ le_bytes k (v / 256)

abbrev pub u16_bytes : ℕ → List ℕ
u16_bytes v = le_bytes 2 v

abbrev pub u32_bytes : ℕ → List ℕ
u32_bytes v = le_bytes 4 v

abbrev pub u64_bytes : ℕ → List ℕ
u64_bytes v = le_bytes 8 v

unfoldable pub join : List (List ℕ) → List ℕ
join [] = []
join (x ∷ xs) = x ++ join xs

abbrev pub u32s : List ℕ → List ℕ
u32s vs = join (map u32_bytes vs)

-- a whole number as an f64
unfoldable pub whole_f64 : ℕ → List ℕ
whole_f64 n = u64_bytes (to_bits binary64 (nat n))

abbrev pub f64s : List ℕ → List ℕ
f64s ns = join (map whole_f64 ns)

-- ---- records

-- the default settings of the Rust but for the weight of the bearing, the FRC tolerance, snap 0 or 1 and the most candidates
unfoldable pub settings_with : ℕ → ℕ → ℕ → ℕ → List ℕ
settings_with bearing_weight tolerance snap most =
    f64s (100 ∷ 90 ∷ 35 ∷ 10 ∷ [])
    ++ u64_bytes bearing_weight
    ++ u64_bytes 0x3FB9_9999_9999_999A
    ++ u64_bytes 0x3FB9_9999_9999_999A
    ++ u64_bytes 0x3FD6_6666_6666_6666
    ++ f64s (100 ∷ 2 ∷ 20 ∷ 10 ∷ 25 ∷ [])
    ++ tolerance ∷ snap ∷ u16_bytes most
    ++ u32_bytes 0

-- 0.2, 2, on, 10
abbrev pub default_settings : List ℕ
default_settings = settings_with 0x3FC9_9999_9999_999A 2 1 10

-- a point of bearing 90: DNP, FRC, FOW, limit, row count
unfoldable pub point : ℕ → ℕ → ℕ → ℕ → ℕ → List ℕ
point dnp frc fow limit rows = whole_f64 dnp ++ u16_bytes 90 ++ frc ∷ fow ∷ limit ∷ 0 ∷ 0 ∷ 0 ∷ u32_bytes rows ++ u32_bytes 0

-- a road: id, length, source, target, FRC, FOW, access
unfoldable pub road : ℕ → ℕ → ℕ → ℕ → ℕ → ℕ → ℕ → List ℕ
road id metres source target frc fow access = u64_bytes id ++ whole_f64 metres ++ u32_bytes source ++ u32_bytes target ++ frc ∷ fow ∷ access ∷ 0 ∷ 0 ∷ 0 ∷ 0 ∷ 0 ∷ []

-- a row: road, distance, road bearing, along, line length
unfoldable pub row : ℕ → ℕ → ℕ → ℕ → ℕ → List ℕ
row road distance bearing along line = u32_bytes road ++ u32_bytes 0 ++ f64s (distance ∷ bearing ∷ along ∷ line ∷ [])

-- a goal row: node, then the distances
unfoldable pub goal : ℕ → List ℕ → List ℕ
goal node distances = u32_bytes node ++ u32_bytes 0 ++ f64s distances

-- ---- the whole sheet

-- The parts of a sheet: the records as bytes, the lists and the distances as numbers.
pub record Parts : Type 0 where
  pub kind : ℕ
  pub nodes : ℕ
  pub settings : List ℕ
  pub points : List (List ℕ)
  pub roads : List (List ℕ)
  pub starts : List ℕ
  pub numbers : List ℕ
  pub rows : List (List ℕ)
  pub from_first : List ℕ
  pub from_last : List ℕ
  pub goals : List (List ℕ)

abbrev pub counts_from : Parts → Counts
counts_from x = record { kind = x.kind; p = length x.points; n = x.nodes; e = length x.roads; m = length x.rows; g = length x.goals }

unfoldable pub header : Counts → List ℕ
header c = u32s (c.kind ∷ c.p ∷ c.n ∷ c.e ∷ c.m ∷ c.g ∷ 56 ∷ 168 ∷ roads_at c ∷ lists_at c ∷ rows_at c ∷ distances_at c ∷ total c ∷ 0 ∷ [])

unfoldable pub sheet_bytes : Parts → List ℕ
sheet_bytes x =
    header (counts_from x)
    ++ x.settings
    ++ join x.points
    ++ join x.roads
    ++ u32s x.starts
    ++ u32s x.numbers
    ++ join x.rows
    ++ f64s x.from_first
    ++ f64s x.from_last
    ++ join x.goals
