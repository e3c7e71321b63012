use Rattle.model.proofs.Fields.{target_below}
use Rattle.sheet.proofs.SoundSheet.target.Goals as goal

pub returns : goal.returns
returns c = let is = rw c.roads.ensures at c.count_at.ensures.0 in (is, rw is (target_below _ _ c.args.self.now.sound _ c.requires))
