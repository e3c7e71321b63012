use native.Mathlib.Omega.{arith}
use Rattle.model.proofs.Fields.{distance_most}
use Rattle.sheet.proofs.Sheet.distance.Goals as goal

pub f64_at-requires : goal.f64_at-requires
f64_at-requires c = (omega arith, rw c.distances.ensures (distance_most _ _ c.args.self.now.well_formed.sound _ c.requires))
