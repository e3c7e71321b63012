use mathlib.Core.Path.{sym}
use Rattle.sheet.proofs.RoadFields.{access_is}
use Rattle.sheet.proofs.Sheet.access.Goals as goal

pub returns : goal.returns
returns c = rw c.roads.ensures (sym (access_is _ _ _ c.requires))
