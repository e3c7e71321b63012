use mathlib.Core.Path.{sym, ◌∙◌}
use native.Mathlib.Omega.{arith}
use Rattle.model.proofs.Parsed.{metres_is}
use Rattle.model.proofs.Fields.{length_most}
use Rattle.sheet.proofs.Sheet.length_m.Goals as goal

pub f64_at-requires : goal.f64_at-requires
f64_at-requires c = (omega arith, rw c.roads.ensures (length_most _ _ c.args.self.now.well_formed.sound _ c.requires))

pub returns : goal.returns
returns c = rw c.roads.ensures at c.f64_at.ensures ∙ sym (metres_is _ _ _ c.requires)
