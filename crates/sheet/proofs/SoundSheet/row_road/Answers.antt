use Rattle.std.proofs.Common.{add-zero}
use Rattle.model.proofs.Fields.{row_road_below}
use Rattle.model.specs.Judge.{row_road}
use Rattle.sheet.proofs.SoundSheet.row_road.Goals as goal

pub returns : goal.returns
unfolding row_road
returns c = let is = rw c.rows.ensures at c.count_at.ensures.0 in (rw add-zero is, rw is (rw add-zero at (row_road_below _ _ c.args.self.now.sound _ c.requires)))
