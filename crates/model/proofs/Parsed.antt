-- The parsed sheet, part by part, as numbers at their places in the bytes.
use Prim.Native.Nat.{ℕ, zero, suc, ◌+◌, ◌*◌, ◌≤◌, ◌<◌}
use mathlib.Core.Path.{◌≡◌, refl, ap, ◌∙◌}
use mathlib.Core.List.{List, []}
use native.Mathlib.Omega.{arith}
use lib.ListN.{length, get_or}
use Rattle.model.specs.declared.Counts.{Counts}
use Rattle.model.specs.declared.Road.{Road}
use Rattle.model.specs.Numbers.{f0}
use Rattle.model.specs.Lists.{tabulate}
use Rattle.model.specs.Bytes.{u32_at, u64_at, f64_at}
use Rattle.model.specs.Layout.{settings_at, points_at, roads_at, rows_at, distances_at, goal_width, settings_bytes, points_bytes, road_bytes, rows_bytes, distances_bytes}
use Rattle.model.specs.Judge.{row_count, rows_before, row_road}
use Rattle.model.specs.Sheet.{MeasuredPoint, road_of, row_of, count_in, before_in, measured_point, part, sheet_of, no_road, road_at, list_at}
use Rattle.model.proofs.Members.{length_tab, getD_table}
use Rattle.model.proofs.Sections.{u32_section, u64_section, f64_section}

module _ (s : List ℕ) (c : Counts) where
  -- ---- counts

  pub node_count : (sheet_of s c).nodes ≡ c.n
  unfolding sheet_of
  node_count = refl

  pub road_count : length (sheet_of s c).roads ≡ c.e
  unfolding sheet_of
  road_count = length_tab _ _ _

  pub list_count : length (sheet_of s c).lists ≡ c.n
  unfolding sheet_of
  list_count = length_tab _ _ _

  pub point_count : length (sheet_of s c).points ≡ c.p
  unfolding sheet_of
  point_count = length_tab _ _ _

  -- ---- roads

  pub road_is : (r : ℕ) → r < c.e → road_at (sheet_of s c) r ≡ road_of (road_bytes s c r) r
  unfolding sheet_of
  road_is r h = getD_table c.e (λ k. road_of (road_bytes s c k) k) r no_road h

  pub number_is : (r : ℕ) → r < c.e → (road_at (sheet_of s c) r).number ≡ r
  unfolding road_of
  number_is r h = ap (λ (x : Road). x.number) (road_is r h)

  pub id_is : (r : ℕ) → r < c.e → (road_at (sheet_of s c) r).id ≡ u64_at s (roads_at c + r * 32)
  unfolding road_of
  id_is r h = ap (λ (x : Road). x.id) (road_is r h) ∙ u64_section s (roads_at c + r * 32) 32 0 (roads_at c + r * 32) (omega arith) (omega arith)

  pub metres_is : (r : ℕ) → r < c.e → (road_at (sheet_of s c) r).length_m ≡ f64_at s (roads_at c + r * 32 + 8)
  unfolding road_of
  metres_is r h = ap (λ (x : Road). x.length_m) (road_is r h) ∙ f64_section s _ 32 8 _ (omega arith) refl

  pub source_is : (r : ℕ) → r < c.e → (road_at (sheet_of s c) r).source ≡ u32_at s (roads_at c + r * 32 + 16)
  unfolding road_of
  source_is r h = ap (λ (x : Road). x.source) (road_is r h) ∙ u32_section s _ 32 16 _ (omega arith) refl

  pub target_is : (r : ℕ) → r < c.e → (road_at (sheet_of s c) r).target ≡ u32_at s (roads_at c + r * 32 + 20)
  unfolding road_of
  target_is r h = ap (λ (x : Road). x.target) (road_is r h) ∙ u32_section s _ 32 20 _ (omega arith) refl

  -- ---- lists and distances

  pub list_is : (v : ℕ) → v < c.n → list_at (sheet_of s c) v ≡ part s c v
  unfolding sheet_of
  list_is v h = getD_table c.n (part s c) v [] h

  distance_is : (o : ℕ) → o + 8 ≤ (c.n + c.n) * 8 → f64_at (distances_bytes s c) o ≡ f64_at s (distances_at c + o)
  distance_is o h = f64_section s (distances_at c) ((c.n + c.n) * 8 + c.g * goal_width c.n) o (distances_at c + o) (omega arith) refl

  pub first_is : (v : ℕ) → v < c.n → get_or (sheet_of s c).from_first v f0 ≡ f64_at s (distances_at c + v * 8)
  unfolding sheet_of
  first_is v h = getD_table c.n (λ k. f64_at (distances_bytes s c) (k * 8)) v f0 h ∙ distance_is (v * 8) (omega arith)

  pub last_is : (v : ℕ) → v < c.n → get_or (sheet_of s c).from_last v f0 ≡ f64_at s (distances_at c + (c.n + v) * 8)
  unfolding sheet_of
  last_is v h = getD_table c.n (λ k. f64_at (distances_bytes s c) ((c.n + k) * 8)) v f0 h ∙ distance_is ((c.n + v) * 8) (omega arith)

  -- ---- the rows of a point are rows of the sheet

  pub count_is : (i : ℕ) → i < c.p → count_in (points_bytes s c) i ≡ row_count s i
  unfolding count_in row_count
  count_is i h = u32_section s points_at (c.p * 24) (i * 24 + 16) (points_at + i * 24 + 16) (omega arith) (omega arith)

  pub before_is : (i : ℕ) → i ≤ c.p → before_in (points_bytes s c) i ≡ rows_before s i
  unfolding before_in rows_before
  before_is zero h = refl
  before_is (suc i) h = rw (before_is i (omega arith), count_is i h)

  pub measured_point_is : (i : ℕ) → i < c.p → (d : MeasuredPoint) → get_or (sheet_of s c).points i d ≡ measured_point (points_bytes s c) (rows_bytes s c) i
  unfolding sheet_of
  measured_point_is i h d = getD_table c.p (measured_point (points_bytes s c) (rows_bytes s c)) i d h

  pub rows_are : (i : ℕ) → i < c.p → (measured_point (points_bytes s c) (rows_bytes s c) i).rows ≡ tabulate (row_count s i) (rows_before s i) (row_of (rows_bytes s c))
  unfolding measured_point
  rows_are i h = rw (count_is i h, before_is i (omega arith))

  -- row k
  pub row_road_is : (k : ℕ) → k < c.m → (row_of (rows_bytes s c) k).road ≡ row_road s c k
  unfolding row_of row_road
  row_road_is k h = u32_section s (rows_at c) (c.m * 40) (k * 40) (rows_at c + k * 40 + 0) (omega arith) (omega arith)

  pub row_distance_is : (k : ℕ) → k < c.m → (row_of (rows_bytes s c) k).distance_m ≡ f64_at s (rows_at c + k * 40 + 8)
  unfolding row_of
  row_distance_is k h = f64_section s (rows_at c) (c.m * 40) (k * 40 + 8) _ (omega arith) (omega arith)

  pub row_bearing_is : (k : ℕ) → k < c.m → (row_of (rows_bytes s c) k).bearing ≡ f64_at s (rows_at c + k * 40 + 16)
  unfolding row_of
  row_bearing_is k h = f64_section s (rows_at c) (c.m * 40) (k * 40 + 16) _ (omega arith) (omega arith)

  pub row_along_is : (k : ℕ) → k < c.m → (row_of (rows_bytes s c) k).along_m ≡ f64_at s (rows_at c + k * 40 + 24)
  unfolding row_of
  row_along_is k h = f64_section s (rows_at c) (c.m * 40) (k * 40 + 24) _ (omega arith) (omega arith)

  pub row_line_is : (k : ℕ) → k < c.m → (row_of (rows_bytes s c) k).length_m ≡ f64_at s (rows_at c + k * 40 + 32)
  unfolding row_of
  row_line_is k h = f64_section s (rows_at c) (c.m * 40) (k * 40 + 32) _ (omega arith) (omega arith)

  -- ---- settings

  pub setting_is : (o : ℕ) → o + 8 ≤ 112 → f64_at (settings_bytes s) o ≡ f64_at s (settings_at + o)
  setting_is o h = f64_section s settings_at 112 o (settings_at + o) h refl
