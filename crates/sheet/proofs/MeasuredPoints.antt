-- The settings and the points of the parsed sheet: a point's own fields, and its rows as a run of the sheet's rows.
use Prim.Native.Nat.{ℕ, ◌+◌, ◌*◌, ◌<◌}
use mathlib.Core.Path.{◌≡◌, refl, ap, ◌∙◌}
use mathlib.Core.List.{List}
use native.Mathlib.Omega.{arith}
use lib.ListN.{get_or}
use Rattle.model.specs.declared.Counts.{Counts}
use Rattle.model.specs.Lists.{tabulate}
use Rattle.model.specs.Bytes.{u8_at, u16_at, f64_at}
use Rattle.model.specs.Layout.{points_at, points_bytes, rows_bytes}
use Rattle.model.specs.Judge.{row_count, rows_before}
use Rattle.model.specs.Sheet.{MeasuredPoint, point_of, row_of, measured_point, sheet_of}
use Rattle.model.proofs.Sections.{u8_section, u16_section, f64_section}
use Rattle.model.proofs.Parsed.{measured_point_is, rows_are}

-- point i, from the whole sheet
pub point_is : (s : List ℕ) (c : Counts) (i : ℕ) → i < c.p → point_of (points_bytes s c) i ≡ record { dnp = f64_at s (points_at + i * 24); bearing = u16_at s (points_at + i * 24 + 8); frc = u8_at s (points_at + i * 24 + 10); fow = u8_at s (points_at + i * 24 + 11); limit = u8_at s (points_at + i * 24 + 12) }
unfolding point_of
point_is s c i h =
    let n : ℕ = c.p * 24 in
    let at : ℕ = i * 24 in
    rw (
      f64_section s points_at n at (points_at + at) (omega arith) refl,
      u16_section s points_at n (at + 8) (points_at + at + 8) (omega arith) (omega arith),
      u8_section s points_at n (at + 10) (points_at + at + 10) (omega arith) (omega arith),
      u8_section s points_at n (at + 11) (points_at + at + 11) (omega arith) (omega arith),
      u8_section s points_at n (at + 12) (points_at + at + 12) (omega arith) (omega arith),
    )

module _ (s : List ℕ) (c : Counts) (i : ℕ) (h : i < c.p) (none : MeasuredPoint) where
  pub measured_at : (get_or (sheet_of s c).points i none).point ≡ point_of (points_bytes s c) i
  unfolding measured_point
  measured_at = ap (λ (x : MeasuredPoint). x.point) (measured_point_is s c i h none)

  -- as many rows as its count, from the first after the rows of the points before
  pub measured_rows : (get_or (sheet_of s c).points i none).rows ≡ tabulate (row_count s i) (rows_before s i) (row_of (rows_bytes s c))
  measured_rows = ap (λ (x : MeasuredPoint). x.rows) (measured_point_is s c i h none) ∙ rows_are s c i h
