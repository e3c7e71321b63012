use native.Mathlib.Omega.{arith}
use Rattle.model.specs.Sheet.{row_of}
use Rattle.model.proofs.Parsed.{row_road_is, row_distance_is, row_bearing_is, row_along_is, row_line_is}
use Rattle.model.proofs.Fields.{row_distance_most, row_bearing_most, row_along_most, row_line_most}
use Rattle.sheet.proofs.Sheet.row.Goals as goal

pub f64_at-distance-requires : goal.f64_at-distance-requires
f64_at-distance-requires c = (omega arith, rw c.rows.ensures (row_distance_most _ _ c.args.self.now.well_formed.sound _ c.requires))

pub f64_at-bearing-requires : goal.f64_at-bearing-requires
f64_at-bearing-requires c = (omega arith, rw c.rows.ensures (omega (arith, row_bearing_most _ _ c.args.self.now.well_formed.sound _ c.requires)))

pub f64_at-along-requires : goal.f64_at-along-requires
f64_at-along-requires c = (omega arith, rw c.rows.ensures (row_along_most _ _ c.args.self.now.well_formed.sound _ c.requires))

pub f64_at-line-requires : goal.f64_at-line-requires
f64_at-line-requires c = (omega arith, rw c.rows.ensures (row_line_most _ _ c.args.self.now.well_formed.sound _ c.requires))

pub returns : goal.returns
unfolding row_of
returns c =
    let start = c in
    let s = c.args.self.now.bytes.now in
    let n = c.args.self.now.counts in
    let k = c.args.k in
    let h = c.requires in
    let road = rw (c.sound.ensures.0, c.sound.ensures.1) at c.row_road-road.ensures in
    (rw (c.f64_at-line.ensures, c.f64_at-along.ensures, c.f64_at-bearing.ensures, c.f64_at-distance.ensures, c.rows.ensures, road.0, row_road_is s n k h, row_distance_is s n k h, row_bearing_is s n k h, row_along_is s n k h, row_line_is s n k h), road.1)
