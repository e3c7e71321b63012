use mathlib.Core.Path.{sym}
use Rattle.model.proofs.Parsed.{number_is}
use Rattle.sheet.proofs.RoadFields.{same_road}
use Rattle.sheet.proofs.Sheet.road.Goals as goal

pub returns : goal.returns
returns c =
    let start = c in
    let source = c.source-source.ensures in
    let target = c.target-target.ensures in
    let frc = c.frc-frc.ensures in
    let fow = c.fow-fow.ensures in
    let number = number_is c.args.self.now.bytes.now c.args.self.now.counts c.args.r c.requires in
    (same_road _ (sym number) c.id-id.ensures c.length_m-length_m.ensures source.0 target.0 frc.0 fow.0 c.access-access.ensures, source.1, target.1, frc.1, fow.1)
