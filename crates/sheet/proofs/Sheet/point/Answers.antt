use native.Mathlib.Omega.{arith}
use Rattle.model.proofs.Fields.{dnp_most, point_bearing_most, point_class_most}
use Rattle.sheet.proofs.MeasuredPoints.{point_is}
use Rattle.sheet.proofs.Sheet.point.Goals as goal

pub f64_at-dnp-requires : goal.f64_at-dnp-requires
f64_at-dnp-requires c = (omega arith, dnp_most _ _ c.args.self.now.well_formed.sound _ c.requires)

pub returns : goal.returns
returns c =
    let start = c in
    let ok = c.args.self.now.well_formed.sound in
    let h = c.requires in
    let bearing = c.u16_at-bearing.ensures in
    let class = point_class_most _ _ ok _ h in
    (rw (point_is c.args.self.now.bytes.now c.args.self.now.counts c.args.i h, bearing, c.f64_at-dnp.ensures), rw bearing (point_bearing_most _ _ ok _ h), class.0, class.1)
