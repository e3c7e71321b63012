-- The rows of a point, read one at a time.
use Prim.Native.Nat.{ℕ, suc, ◌+◌, ◌-◌, ◌≤◌, ◌<◌}
use mathlib.Core.Path.{◌≡◌, refl}
use mathlib.Core.Bool.{Bool, true, false, cond}
use mathlib.Core.List.{List, [], ◌∷◌, map}
use native.Mathlib.Omega.{arith}
use Rattle.std.specs.Prelude.{Some, None}
use Rattle.model.specs.declared.Counts.{Counts}
use Rattle.model.specs.declared.Settings.{Settings}
use Rattle.model.specs.declared.Point.{Point}
use Rattle.model.specs.Lists.{filter_map, tabulate, when, cons_some}
use Rattle.model.specs.Layout.{points_bytes, rows_bytes}
use Rattle.model.specs.Judge.{row_count, rows_before}
use Rattle.model.specs.Sheet.{point_of, row_of, sheet_of}
use Rattle.model.specs.View.{Projection, projection_of}
use Rattle.model.specs.Candidates.{Candidate, candidate_of, candidate, passes}
use Rattle.sheet.proofs.MeasuredPoints.{measured_at, measured_rows}
use Rattle.candidates.specs.declared.candidate.Candidate as code
use Rattle.candidates.specs.Found.{no_point, kept_at, by_number, if_passes}
use Rattle.candidates.specs.Rows.{left}

-- one row more in front
module _ (b : Bool) (x : Candidate) (xs : List Candidate) where
  drop_row : cond b (Some (by_number x)) None ≡ None → map by_number (cons_some (when b x) xs) ≡ map by_number xs
  unfolding cons_some when
  drop_row = go b
    where
      go : (b : Bool) → cond b (Some (by_number x)) None ≡ None → map by_number (cons_some (when b x) xs) ≡ map by_number xs
      go true e = absurd (cc)
      go false e = refl

  take_row : (y : code.Candidate) → cond b (Some (by_number x)) None ≡ Some y → map by_number (cons_some (when b x) xs) ≡ y ∷ map by_number xs
  unfolding cons_some when
  take_row y = go b
    where
      go : (b : Bool) → cond b (Some (by_number x)) None ≡ Some y → map by_number (cons_some (when b x) xs) ≡ y ∷ map by_number xs
      go true e = cc
      go false e = absurd (cc)

module _ (s : List ℕ) (c : Counts) (set : Settings) (p : Point) (k e : ℕ) where
  pub left_end : e ≤ k → left s c set p k e ≡ []
  unfolding left filter_map tabulate
  left_end h = let z : e - k ≡ 0 = omega arith in rw z

  abbrev row : Projection
  row = projection_of (sheet_of s c) (row_of (rows_bytes s c) k)

  module _ (h : k < e) where
    one_row : e - k ≡ suc (e - (k + 1))
    one_row = omega arith

    pub left_none : if_passes set (candidate_of set p row) ≡ None → left s c set p k e ≡ left s c set p (k + 1) e
    unfolding left filter_map tabulate candidate
    left_none n = rw one_row (drop_row (passes set (candidate_of set p row)) (candidate_of set p row) _ n)

    pub left_some : (y : code.Candidate) → if_passes set (candidate_of set p row) ≡ Some y → left s c set p k e ≡ y ∷ left s c set p (k + 1) e
    unfolding left filter_map tabulate candidate
    left_some y n = rw one_row (take_row (passes set (candidate_of set p row)) (candidate_of set p row) _ y n)

-- all of them
pub left_all : (s : List ℕ) (c : Counts) (i : ℕ) → i < c.p → left s c (sheet_of s c).settings (point_of (points_bytes s c) i) (rows_before s i) (rows_before s i + row_count s i) ≡ map by_number (kept_at (sheet_of s c) i)
unfolding left kept_at
left_all s c i h =
    let n : rows_before s i + row_count s i - rows_before s i ≡ row_count s i = omega arith in
    rw (n, measured_at s c i h no_point, measured_rows s c i h no_point)
