-- What a good verdict says of each field: from the whole row of verdicts to one record, and from a record's table to one field.
use Prim.Native.Nat.{ℕ, zero, suc, ◌+◌, ◌*◌, ◌≤◌, ◌<◌, zero-le, suc-le-suc}
use mathlib.Core.Path.{◌≡◌, refl, ap, ◌∙◌}
use mathlib.Core.Bool.{Bool, true, false, cond}
use mathlib.Core.List.{List, [], ◌∷◌, ◌++◌}
use native.Mathlib.Nat.{suc-mul, add-zero, zero-mul, not-suc-le-zero, le_of_suc-le-suc, le_refl, le_trans}
use native.Mathlib.Omega.{arith}
use lib.ListN.{length, get_or, get_or-append}
use lib.Dec.{eqb}
use borrow.Author.Tests.{ltb-true, leb-true}
use Rattle.model.specs.declared.Counts.{Counts}
use Rattle.std.specs.Prelude.{Ok, Err}
use Rattle.model.specs.Bytes.{u8_at, u16_at, u32_at, u64_at}
use Rattle.model.specs.Layout.{settings_at, points_at, roads_at, numbers_at, rows_at, distances_at, goals_at, goal_width, most_measured}
use Rattle.model.specs.Table.{Verdict, Field, need, ◌then◌, check, check_then, records, first_bad, first_bad_after, fields_alike, f64, measured, most_f64, most_bearing}
use Rattle.model.specs.Judge.{settings_table, point_table, road_table, number_table, row_table, distance_table, goal_table, fields_good, source_of, entry_of, row_count, row_road, goal_node, Sound}

-- ---- verdicts

pub then_first : (u v : Verdict) → (u then v) ≡ Ok tt → u ≡ Ok tt
unfolding ◌then◌
then_first (Ok _) v e = refl
then_first (Err a) v e = e

pub then_rest : (u v : Verdict) → (u then v) ≡ Ok tt → v ≡ Ok tt
unfolding ◌then◌
then_rest (Ok _) v e = e
then_rest (Err a) v e = cc

pub need_good : (b : Bool) (a : ℕ) (v : Verdict) → need b a v ≡ Ok tt → b ≡ true
unfolding need
need_good true a v e = refl
need_good false a v e = cc

pub need_rest : (b : Bool) (a : ℕ) (v : Verdict) → need b a v ≡ Ok tt → v ≡ Ok tt
unfolding need
need_rest true a v e = e
need_rest false a v e = cc

-- each of a good row of verdicts
first_bad_first : (v : Verdict) (vs : List Verdict) → first_bad_after v vs ≡ Ok tt → v ≡ Ok tt
unfolding first_bad_after
first_bad_first v [] e = e
first_bad_first v (u ∷ us) e = then_first v u (first_bad_first (v then u) us e)

first_bad_after_at : (v : Verdict) (vs : List Verdict) → first_bad_after v vs ≡ Ok tt → (i : ℕ) → get_or vs i (Ok tt) ≡ Ok tt
unfolding first_bad_after
first_bad_after_at v [] e i = refl
first_bad_after_at v (u ∷ us) e zero = then_rest v u (first_bad_first (v then u) us e)
first_bad_after_at v (u ∷ us) e (suc i) = first_bad_after_at (v then u) us e i

pub first_bad_at : (vs : List Verdict) → first_bad vs ≡ Ok tt → (i : ℕ) → get_or vs i (Ok tt) ≡ Ok tt
unfolding first_bad
first_bad_at vs e i = first_bad_after_at (Ok tt) vs e i

-- ---- records and their fields

-- a field that is good everywhere: past a table's end
abbrev pub any_field : Field
any_field = record { off = 0; good = λ s at. true }

-- each field of a good record
pub field_good : (s : List ℕ) (at : ℕ) (fs : List Field) → check s at fs ≡ Ok tt → (i : ℕ) → (get_or fs i any_field).good s at ≡ true
unfolding check_then
field_good s at [] e i = refl
field_good s at (f ∷ fs) e zero = need_good (f.good s at) _ _ e
field_good s at (f ∷ fs) e (suc i) = field_good s at fs (need_rest (f.good s at) _ _ e) i

-- each record of a good run
pub record_good : (s : List ℕ) (w : ℕ) (fs : List Field) (k at : ℕ) → records s w fs k at ≡ Ok tt → (i : ℕ) → i < k → check s (at + i * w) fs ≡ Ok tt
unfolding records
record_good s w fs zero at e i h = absurd (not-suc-le-zero h)
record_good s w fs (suc k) at e zero h = rw (zero-mul, add-zero) (then_first (check s at fs) _ e)
record_good s w fs (suc k) at e (suc i) h =
    let there : at + w + i * w ≡ at + suc i * w = rw suc-mul (omega arith) in
    rw there at (record_good s w fs k (at + w) (then_rest (check s at fs) _ e) i (le_of_suc-le-suc h))

-- each field of each record of a good run
pub records_field : (s : List ℕ) (w : ℕ) (fs : List Field) (k at : ℕ) → records s w fs k at ≡ Ok tt → (r : ℕ) → r < k → (i : ℕ) → (get_or fs i any_field).good s (at + r * w) ≡ true
records_field s w fs k at e r h i = field_good s (at + r * w) fs (record_good s w fs k at e r h) i

-- field i of a run of fields alike, at a table's end and within it
pub alike_last : (f : ℕ → Field) (w o k : ℕ) (i : ℕ) → i < k → get_or (fields_alike f w o k) i any_field ≡ f (o + i * w)
unfolding fields_alike
alike_last f w o zero i h = absurd (not-suc-le-zero h)
alike_last f w o (suc k) zero h = ap f {x = o} {y = o + 0 * w} (rw (zero-mul, add-zero))
alike_last f w o (suc k) (suc i) h =
    let there : o + w + i * w ≡ o + suc i * w = rw suc-mul (omega arith) in
    alike_last f w (o + w) k i (le_of_suc-le-suc h) ∙ ap f there

length_alike : (f : ℕ → Field) (w o k : ℕ) → length (fields_alike f w o k) ≡ k
unfolding fields_alike
length_alike f w o zero = refl
length_alike f w o (suc k) = ap suc (length_alike f w (o + w) k)

pub alike_at : (f : ℕ → Field) (w o k : ℕ) (fs : List Field) (i : ℕ) → i < k → get_or (fields_alike f w o k ++ fs) i any_field ≡ f (o + i * w)
alike_at f w o k fs i h = get_or-append (fields_alike f w o k) fs any_field i (omega (arith, length_alike f w o k)) ∙ alike_last f w o k i h

-- either of two bounds is at most the greater
either_most : (b : Bool) (n : ℕ) → cond b 0 n ≤ n
either_most true n = zero-le
either_most false n = le_refl n

-- ---- a sound sheet's numbers

module _ (s : List ℕ) (c : Counts) (ok : Sound s c) where
  settings_field : (i : ℕ) → (get_or settings_table i any_field).good s (settings_at + 0 * 112) ≡ true
  unfolding fields_good
  settings_field = records_field s 112 settings_table 1 settings_at (first_bad_at _ ok.fields 1) 0 (suc-le-suc zero-le)

  point_field : (r : ℕ) → r < c.p → (i : ℕ) → (get_or point_table i any_field).good s (points_at + r * 24) ≡ true
  unfolding fields_good
  point_field = records_field s 24 point_table c.p points_at (first_bad_at _ ok.fields 2)

  road_field : (r : ℕ) → r < c.e → (i : ℕ) → (get_or (road_table c.n) i any_field).good s (roads_at c + r * 32) ≡ true
  unfolding fields_good
  road_field = records_field s 32 (road_table c.n) c.e (roads_at c) (first_bad_at _ ok.fields 3)

  row_field : (k : ℕ) → k < c.m → (i : ℕ) → (get_or (row_table c.e) i any_field).good s (rows_at c + k * 40) ≡ true
  unfolding fields_good
  row_field = records_field s 40 (row_table c.e) c.m (rows_at c) (first_bad_at _ ok.fields 5)

  goal_field : (k : ℕ) → k < c.g → (i : ℕ) → (get_or (goal_table c.n) i any_field).good s (goals_at c + k * goal_width c.n) ≡ true
  unfolding fields_good
  goal_field = records_field s (goal_width c.n) (goal_table c.n) c.g (goals_at c) (first_bad_at _ ok.fields 7)

  -- the settings
  pub settings_most : (k : ℕ) → k < 13 → u64_at s (settings_at + k * 8) ≤ most_f64
  unfolding settings_table
  settings_most k h =
      let place : ℕ = settings_at + 0 * 112 + (0 + k * 8) in
      let there : place ≡ settings_at + k * 8 = omega arith in
      rw there at (leb-true (u64_at s place) most_f64 (rw (alike_at (f64 measured) 8 0 13 _ k h) at (settings_field k)))

  -- a point
  pub dnp_most : (i : ℕ) → i < c.p → u64_at s (points_at + i * 24) ≤ most_f64
  unfolding point_table
  dnp_most i h =
      let there : points_at + i * 24 + 0 ≡ points_at + i * 24 = omega arith in
      rw there at (le_trans (leb-true (u64_at s (points_at + i * 24 + 0)) _ (point_field i h 0)) (either_most (eqb (u8_at s (points_at + i * 24 + 12)) 255) most_f64))

  pub point_bearing_most : (i : ℕ) → i < c.p → u16_at s (points_at + i * 24 + 8) ≤ 360
  unfolding point_table
  point_bearing_most i h = leb-true _ _ (point_field i h 1)

  pub point_class_most : (i : ℕ) → i < c.p → (u8_at s (points_at + i * 24 + 10) ≤ 7) × (u8_at s (points_at + i * 24 + 11) ≤ 7)
  unfolding point_table
  point_class_most i h = (leb-true _ _ (point_field i h 2), leb-true _ _ (point_field i h 3))

  pub count_most : (i : ℕ) → i < c.p → row_count s i ≤ most_measured
  unfolding point_table fields_alike row_count
  count_most i h = leb-true _ _ (point_field i h 8)

  -- a road
  pub length_most : (r : ℕ) → r < c.e → u64_at s (roads_at c + r * 32 + 8) ≤ most_f64
  unfolding road_table
  length_most r h = leb-true _ _ (road_field r h 0)

  pub source_below : (r : ℕ) → r < c.e → source_of s c r < c.n
  unfolding road_table source_of
  source_below r h = ltb-true _ _ (road_field r h 1)

  pub target_below : (r : ℕ) → r < c.e → u32_at s (roads_at c + r * 32 + 20) < c.n
  unfolding road_table
  target_below r h = ltb-true _ _ (road_field r h 2)

  -- FRC and FOW
  pub class_most : (r : ℕ) → r < c.e → (u8_at s (roads_at c + r * 32 + 24) ≤ 7) × (u8_at s (roads_at c + r * 32 + 25) ≤ 7)
  unfolding road_table
  class_most r h = (leb-true _ _ (road_field r h 3), leb-true _ _ (road_field r h 4))

  -- a road number of the lists
  pub entry_below : (j : ℕ) → j < c.e → entry_of s c j < c.e
  unfolding fields_good number_table entry_of
  entry_below j h = ltb-true _ _ (records_field s 4 (number_table c.e) c.e (numbers_at c) (first_bad_at _ ok.fields 4) j h 0)

  -- a row
  pub row_road_below : (k : ℕ) → k < c.m → row_road s c k < c.e
  unfolding row_table row_road
  row_road_below k h = ltb-true _ _ (row_field k h 0)

  pub row_distance_most : (k : ℕ) → k < c.m → u64_at s (rows_at c + k * 40 + 8) ≤ most_f64
  unfolding row_table fields_alike
  row_distance_most k h = leb-true _ _ (row_field k h 5)

  pub row_bearing_most : (k : ℕ) → k < c.m → u64_at s (rows_at c + k * 40 + 16) ≤ most_bearing
  unfolding row_table fields_alike
  row_bearing_most k h = leb-true _ _ (row_field k h 6)

  pub row_along_most : (k : ℕ) → k < c.m → u64_at s (rows_at c + k * 40 + 24) ≤ most_f64
  unfolding row_table fields_alike
  row_along_most k h = leb-true _ _ (row_field k h 7)

  pub row_line_most : (k : ℕ) → k < c.m → u64_at s (rows_at c + k * 40 + 32) ≤ most_f64
  unfolding row_table fields_alike
  row_line_most k h = leb-true _ _ (row_field k h 8)

  -- a distance from the first or the last point
  pub distance_most : (k : ℕ) → k < c.n + c.n → u64_at s (distances_at c + k * 8) ≤ most_f64
  unfolding fields_good distance_table
  distance_most k h =
      let there : distances_at c + k * 8 + 0 ≡ distances_at c + k * 8 = omega arith in
      rw there at (leb-true (u64_at s (distances_at c + k * 8 + 0)) most_f64 (records_field s 8 distance_table (c.n + c.n) (distances_at c) (first_bad_at _ ok.fields 6) k h 0))

  -- a goal row
  pub goal_node_below : (k : ℕ) → k < c.g → goal_node s c k < c.n
  unfolding goal_table goal_node
  goal_node_below k h = ltb-true _ _ (goal_field k h 0)

  pub goal_distance_most : (k : ℕ) → k < c.g → (v : ℕ) → v < c.n → u64_at s (goals_at c + k * goal_width c.n + 8 + v * 8) ≤ most_f64
  unfolding goal_table fields_alike
  goal_distance_most k h v hv =
      let place : ℕ = goals_at c + k * goal_width c.n + (8 + v * 8) in
      let there : place ≡ goals_at c + k * goal_width c.n + 8 + v * 8 = omega arith in
      rw there at (leb-true (u64_at s place) most_f64 (rw (alike_last (f64 measured) 8 8 c.n v hv) at (goal_field k h (suc (suc (suc (suc (suc v))))))))
