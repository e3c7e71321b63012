use mathlib.Core.Path.{sym}
use Rattle.model.proofs.Fields.{class_most}
use Rattle.sheet.proofs.RoadFields.{fow_is}
use Rattle.sheet.proofs.Sheet.fow.Goals as goal

pub returns : goal.returns
returns c = rw c.roads.ensures (sym (fow_is _ _ _ c.requires), (class_most _ _ c.args.self.now.well_formed.sound _ c.requires).1)
