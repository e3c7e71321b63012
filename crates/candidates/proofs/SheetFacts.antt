-- What a well-formed sheet says of its settings, its points and their rows, as far as scores and candidates need it.
use Prim.Native.Nat.{ℕ, zero, suc, ◌+◌, ◌-◌, ◌*◌, ◌<◌}
use mathlib.Core.Path.{◌≡◌, sym, ap, ◌∙◌, subst}
use mathlib.Core.Bool.{true}
use mathlib.Core.List.{List}
use native.Mathlib.Nat.{zero-add}
use native.Mathlib.Omega.{arith}
use borrow.Author.Tests.{ltb-true}
use Rattle.model.specs.declared.Counts.{Counts}
use Rattle.model.specs.declared.Point.{Point}
use Rattle.model.specs.Bytes.{u64_at, f64_at}
use Rattle.model.specs.Layout.{settings_at, settings_bytes, points_bytes, rows_bytes}
use Rattle.model.specs.Judge.{WellFormed, source_of, row_count, rows_before, row_road, row_rises, point_rises, rows_good}
use Rattle.model.specs.Sheet.{settings_of, point_of, row_of, sheet_of, road_at}
use Rattle.model.specs.View.{Projection, projection_of}
use Rattle.model.specs.Candidates.{candidate_of}
use Rattle.model.proofs.Judging.{all_of_at}
use Rattle.model.proofs.Listed.{every_at}
use Rattle.model.proofs.Fields.{settings_most, point_bearing_most, point_class_most, class_most, row_road_below, row_distance_most, row_bearing_most, source_below, target_below}
use Rattle.model.proofs.Parsed.{setting_is, row_road_is, row_distance_is, row_bearing_is, number_is, source_is, target_is}
use Rattle.sheet.proofs.RoadFields.{frc_is, fow_is}
use Rattle.sheet.proofs.MeasuredPoints.{point_is}
use Rattle.bounds.specs.Amounts.{Finite}
use Rattle.bounds.proofs.AmountLaws.{bits_finite}
use Rattle.candidates.specs.Found.{OnSheet}
use Rattle.candidates.proofs.Degrees.{bits_turned}
use Rattle.candidates.proofs.Weighed.{Weighed, Measured}

module _ (s : List ℕ) (c : Counts) (ok : WellFormed s c) where
  setting_finite : (k : ℕ) → k < 13 → Finite (f64_at (settings_bytes s) (k * 8))
  unfolding f64_at
  setting_finite k h = subst Finite (sym (setting_is s c (k * 8) (omega arith))) (bits_finite (u64_at s (settings_at + k * 8)) (settings_most s c ok.sound k h))

  pub weighed : Weighed (sheet_of s c).settings
  unfolding sheet_of settings_of
  weighed = record {
    radius = setting_finite 0 (omega arith);
    bearing = setting_finite 1 (omega arith);
    distance_weight = setting_finite 3 (omega arith);
    bearing_weight = setting_finite 4 (omega arith);
    frc_weight = setting_finite 5 (omega arith);
    fow_weight = setting_finite 6 (omega arith);
  }

  pub most_finite : Finite (sheet_of s c).settings.max_candidate_distance_m
  unfolding sheet_of settings_of
  most_finite = setting_finite 2 (omega arith)

  module _ (i : ℕ) (h : i < c.p) (k : ℕ) (g : k < c.m) where
    road_below : (row_of (rows_bytes s c) k).road < c.e
    road_below = rw (row_road_is s c k g) (row_road_below s c ok.sound k g)

    abbrev spot : Projection
    spot = projection_of (sheet_of s c) (row_of (rows_bytes s c) k)

    pub measured : Measured (point_of (points_bytes s c) i) (projection_of (sheet_of s c) (row_of (rows_bytes s c) k))
    unfolding f64_at
    measured =
        let r = (row_of (rows_bytes s c) k).road in
        let p = point_is s c i h in
        let classes = point_class_most s c ok.sound i h in
        let road-classes = class_most s c ok.sound r road_below in
        record {
          heading = rw (ap (λ (x : Point). x.bearing) p) (point_bearing_most s c ok.sound i h);
          wanted_class = rw (ap (λ (x : Point). x.frc) p) classes.0;
          wanted_form = rw (ap (λ (x : Point). x.fow) p) classes.1;
          class = rw (frc_is s c r road_below) road-classes.0;
          form = rw (fow_is s c r road_below) road-classes.1;
          distance_m = rw (row_distance_is s c k g) (bits_finite _ (row_distance_most s c ok.sound k g));
          bearing = rw (row_bearing_is s c k g) (bits_turned _ (row_bearing_most s c ok.sound k g));
        }

    pub on_sheet : OnSheet (sheet_of s c) c (candidate_of (sheet_of s c).settings (point_of (points_bytes s c) i) (projection_of (sheet_of s c) (row_of (rows_bytes s c) k)))
    unfolding candidate_of source_of
    on_sheet =
        let r = (row_of (rows_bytes s c) k).road in
        let number = number_is s c r road_below in
        let road-classes = class_most s c ok.sound r road_below in
        record {
          number = rw number road_below;
          road = ap (road_at (sheet_of s c)) (sym number);
          source = rw (source_is s c r road_below) (source_below s c ok.sound r road_below);
          target = rw (target_is s c r road_below) (target_below s c ok.sound r road_below);
          frc = rw (frc_is s c r road_below) road-classes.0;
          fow = rw (fow_is s c r road_below) road-classes.1;
        }

    -- the number of the road that the row names
    pub row_number : (road_at (sheet_of s c) (row_of (rows_bytes s c) k).road).number ≡ row_road s c k
    row_number = number_is s c (row_of (rows_bytes s c) k).road road_below ∙ row_road_is s c k g

  -- the roads of a point's rows rise
  module _ (i : ℕ) (h : i < c.p) where
    row_step : (k : ℕ) → k + 1 < row_count s i → row_road s c (rows_before s i + k) < row_road s c (rows_before s i + k + 1)
    unfolding rows_good
    row_step k l =
        let point : point_rises s c i ≡ true = rw zero-add at (every_at (point_rises s c) c.p 0 (all_of_at _ ok.rows 1) i h) in
        ltb-true _ _ (every_at (row_rises s c) (row_count s i - 1) (rows_before s i) point k (omega arith))

    row_add : (k d : ℕ) → k + suc d < row_count s i → row_road s c (rows_before s i + k) < row_road s c (rows_before s i + (k + suc d))
    row_add k zero l =
        let there : rows_before s i + (k + 1) ≡ rows_before s i + k + 1 = omega arith in
        rw there (row_step k (omega arith))
    row_add k (suc d) l =
        let there : rows_before s i + (k + suc (suc d)) ≡ rows_before s i + (k + suc d) + 1 = omega arith in
        rw there (omega (arith, row_add k d (omega arith), row_step (k + suc d) (omega arith)))

    pub rows_rise : (j k : ℕ) → j < k → k < row_count s i → row_road s c (rows_before s i + j) < row_road s c (rows_before s i + k)
    rows_rise j k l m =
        let there : j + suc (k - (j + 1)) ≡ k = omega arith in
        rw there at (row_add j (k - (j + 1)) (omega arith))
