use Prim.Native.Nat.{◌*◌}
use mathlib.Core.Path.{sym, ◌∙◌}
use native.Mathlib.Omega.{arith}
use Rattle.model.proofs.Parsed.{setting_is}
use Rattle.model.proofs.Fields.{settings_most}
use Rattle.sheet.proofs.Sheet.setting.Goals as goal

pub f64_at-requires : goal.f64_at-requires
f64_at-requires c = (omega arith, settings_most _ _ c.args.self.now.well_formed.sound _ c.requires)

pub returns : goal.returns
returns c = c.f64_at.ensures ∙ sym (setting_is _ c.args.self.now.counts (c.args.k * 8) (omega arith))
