-- "The sheet" and rows 1 to 5 of "When nothing is matched": which byte sequences are well-formed, and the refusal of any other.
use Rattle.std.specs.Prelude.{ℕ, zero, suc, ◌+◌, ◌-◌, ◌*◌, ◌≤◌, ◌≡◌, Bool, true, false, cond, ◌&&◌, ◌||◌, not, List, [], ◌∷◌, ◌++◌, length, leb, ltb, eqb, Ok, Err}
use Rattle.model.specs.declared.Counts.{Counts}
use Rattle.model.specs.Bytes.{u8_at, u32_at, u64_at}
use Rattle.model.specs.Layout.{most_points, most_nodes, most_roads, most_rows, most_goals, most_measured, point_along_line, last_kind, header_size, counts_of, settings_at, points_at, roads_at, lists_at, numbers_at, rows_at, distances_at, goals_at, goal_width, total}
use Rattle.model.specs.Table.{Verdict, Field, first_bad, records, u8, u16, u32, f64, zeros, measures, up_to, below, measured, most_f64, bearing, all_of, every, met}

-- ---- the tables: a line for each field, in the order of the sheet

-- kinds 1 to 9
abbrev pub known_kind : ℕ → Bool
known_kind v = leb 1 v && leb v last_kind

unfoldable pub header_table : List Field
header_table = u32 known_kind 0 ∷ []

-- 13 f64; FRC tolerance, any u8; snap; most candidates; u32 zero
unfoldable pub settings_table : List Field
settings_table = measures 0 13 ++ u8 (up_to 1) 105 ∷ u16 (up_to most_measured) 106 ∷ zeros 108 4

-- the DNP is +0 where the point has no path entry
abbrev pub dnp : Field
dnp = record { off = 0; good = λ s at. leb (u64_at s (at + 0)) (cond (eqb (u8_at s (at + 12)) 255) 0 most_f64) }

-- a class, or 255 for no path entry
abbrev pub limit : ℕ → Bool
limit v = leb v 7 || eqb v 255

-- DNP; bearing; FRC; FOW; limit; three zeros; row count; u32 zero
unfoldable pub point_table : List Field
point_table = dnp ∷ u16 (up_to 360) 8 ∷ u8 (up_to 7) 10 ∷ u8 (up_to 7) 11 ∷ u8 limit 12 ∷ zeros 13 3 ++ u32 (up_to most_measured) 16 ∷ zeros 20 4

-- u64 id; length; source; target; FRC; FOW; access; five zeros
unfoldable pub road_table : ℕ → List Field
road_table n = f64 measured 8 ∷ u32 (below n) 16 ∷ u32 (below n) 20 ∷ u8 (up_to 7) 24 ∷ u8 (up_to 7) 25 ∷ u8 (up_to 1) 26 ∷ zeros 27 5

-- a road number of the lists
unfoldable pub number_table : ℕ → List Field
number_table e = u32 (below e) 0 ∷ []

-- road; u32 zero; distance; road bearing; along; line length
unfoldable pub row_table : ℕ → List Field
row_table e = u32 (below e) 0 ∷ zeros 4 4 ++ f64 measured 8 ∷ f64 bearing 16 ∷ f64 measured 24 ∷ f64 measured 32 ∷ []

-- a distance from the first or the last point
unfoldable pub distance_table : List Field
distance_table = f64 measured 0 ∷ []

-- node; u32 zero; N distances
unfoldable pub goal_table : ℕ → List Field
goal_table n = u32 (below n) 0 ∷ zeros 4 4 ++ measures 8 n

-- ---- refusals 2, 3 and 4

unfoldable pub counts_good : Counts → Bool
counts_good c = all_of
    (leb c.p most_points
    ∷ leb c.n most_nodes
    ∷ leb c.e most_roads
    ∷ leb c.m most_rows
    ∷ leb c.g most_goals
    ∷ (not (eqb c.kind point_along_line) || eqb c.p 2)
    ∷ [])

unfoldable pub offsets_good : List ℕ → Counts → Bool
offsets_good s c = all_of
    (eqb (u32_at s 24) settings_at
    ∷ eqb (u32_at s 28) points_at
    ∷ eqb (u32_at s 32) (roads_at c)
    ∷ eqb (u32_at s 36) (lists_at c)
    ∷ eqb (u32_at s 40) (rows_at c)
    ∷ eqb (u32_at s 44) (distances_at c)
    ∷ eqb (u32_at s 48) (total c)
    ∷ eqb (total c) (length s)
    ∷ eqb (u32_at s 52) 0
    ∷ [])

-- the first bad field of the sheet; start positions are judged by refusal 5 alone
unfoldable pub fields_good : List ℕ → Counts → Verdict
fields_good s c = first_bad
    (records s 4 header_table 1 0
    ∷ records s 112 settings_table 1 settings_at
    ∷ records s 24 point_table c.p points_at
    ∷ records s 32 (road_table c.n) c.e (roads_at c)
    ∷ records s 4 (number_table c.e) c.e (numbers_at c)
    ∷ records s 40 (row_table c.e) c.m (rows_at c)
    ∷ records s 8 distance_table (c.n + c.n) (distances_at c)
    ∷ records s (goal_width c.n) (goal_table c.n) c.g (goals_at c)
    ∷ [])

-- ---- the numbers that refusal 5 compares

unfoldable pub source_of : List ℕ → Counts → ℕ → ℕ
source_of s c r = u32_at s (roads_at c + r * 32 + 16)

-- where node i's part of the lists begins
unfoldable pub start_of : List ℕ → Counts → ℕ → ℕ
start_of s c i = u32_at s (lists_at c + i * 4)

-- the road number at place j of the lists
unfoldable pub entry_of : List ℕ → Counts → ℕ → ℕ
entry_of s c j = u32_at s (numbers_at c + j * 4 + 0)

-- the row count of point i, and the rows of the points before i
unfoldable pub row_count : List ℕ → ℕ → ℕ
row_count s i = u32_at s (points_at + i * 24 + 16)

unfoldable pub rows_before : List ℕ → ℕ → ℕ
rows_before s zero = 0
rows_before s (suc i) = rows_before s i + row_count s i

-- the road of row k
unfoldable pub row_road : List ℕ → Counts → ℕ → ℕ
row_road s c k = u32_at s (rows_at c + k * 40 + 0)

-- the node of goal row k
unfoldable pub goal_node : List ℕ → Counts → ℕ → ℕ
goal_node s c k = u32_at s (goals_at c + k * goal_width c.n + 0)

-- ---- refusal 5: the lists

abbrev pub start_rises : List ℕ → Counts → ℕ → Bool
start_rises s c i = leb (start_of s c i) (start_of s c (i + 1))

-- place j lies in node i's part
abbrev pub in_part : List ℕ → Counts → ℕ → ℕ → Bool
in_part s c i j = leb (start_of s c i) j && ltb j (start_of s c (i + 1))

-- the road at place j stands in its source's part, and at no place before
abbrev pub entry_good : List ℕ → Counts → ℕ → Bool
entry_good s c j = in_part s c (source_of s c (entry_of s c j)) j && not (met (entry_of s c) (entry_of s c j) j)

-- Start positions: first 0, last E, never falling. Then E road numbers, each in its source's part once.
unfoldable pub lists_good : List ℕ → Counts → Bool
lists_good s c = all_of
    (eqb (start_of s c 0) 0
    ∷ eqb (start_of s c c.n) c.e
    ∷ every (start_rises s c) c.n 0
    ∷ every (entry_good s c) c.e 0
    ∷ [])

-- ---- refusal 5: the rows and the goals

abbrev pub row_rises : List ℕ → Counts → ℕ → Bool
row_rises s c k = ltb (row_road s c k) (row_road s c (k + 1))

-- the roads rise over the rows of point i
abbrev pub point_rises : List ℕ → Counts → ℕ → Bool
point_rises s c i = every (row_rises s c) (row_count s i - 1) (rows_before s i)

abbrev pub goal_rises : List ℕ → Counts → ℕ → Bool
goal_rises s c k = ltb (goal_node s c k) (goal_node s c (k + 1))

-- the source of row k's road has a goal row
abbrev pub has_goal : List ℕ → Counts → ℕ → Bool
has_goal s c k = met (goal_node s c) (source_of s c (row_road s c k)) c.g

-- The row counts add up to M; roads rise within a point; goals rise; each row after the first point's has its goal row.
unfoldable pub rows_good : List ℕ → Counts → Bool
rows_good s c = all_of
    (eqb (rows_before s c.p) c.m
    ∷ every (point_rises s c) c.p 0
    ∷ every (goal_rises s c) (c.g - 1) 0
    ∷ every (has_goal s c) (c.m - row_count s 0) (row_count s 0)
    ∷ [])

-- ---- the first of refusals 1 to 5, with its place A

-- What refusals 1 to 5 say of a byte sequence: well-formed, or refused with its number and place A.
pub data Judged : Type 0 where
  Fine : Judged
  Refused : ℕ → ℕ → Judged

unfoldable pub refuse : ℕ → Bool → Judged → Judged
refuse number true rest = rest
refuse number false rest = Refused number 0

unfoldable pub refuse_field : Verdict → Judged → Judged
refuse_field (Ok x) rest = rest
refuse_field (Err at) rest = Refused 4 at

unfoldable pub judged : List ℕ → Judged
judged s =
    let c = counts_of s in
    refuse 1 (leb header_size (length s))
    (refuse 2 (counts_good c)
    (refuse 3 (offsets_good s c)
    (refuse_field (fields_good s c)
    (refuse 5 (lists_good s c)
    (refuse 5 (rows_good s c) Fine)))))

-- What refusal 2 leaves.
pub record Small (c : Counts) : Type 0 where
  pub p : c.p ≤ most_points
  pub n : c.n ≤ most_nodes
  pub e : c.e ≤ most_roads
  pub m : c.m ≤ most_rows
  pub g : c.g ≤ most_goals

-- What refusals 1 to 4 leave.
pub record Sound (s : List ℕ) (c : Counts) : Type 0 where
  pub small : Small c
  pub whole : length s ≡ total c
  pub fields : fields_good s c ≡ Ok tt

-- A sheet that rows 1 to 5 let pass is well-formed; c are the counts of its header.
pub record WellFormed (s : List ℕ) (c : Counts) : Type 0 where
  pub header : c ≡ counts_of s
  pub counts : counts_good c ≡ true
  pub offsets : offsets_good s c ≡ true
  pub sound : Sound s c
  pub lists : lists_good s c ≡ true
  pub rows : rows_good s c ≡ true
