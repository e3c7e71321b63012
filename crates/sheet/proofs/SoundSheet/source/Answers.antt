use Rattle.model.proofs.Fields.{source_below}
use Rattle.model.specs.Judge.{source_of}
use Rattle.sheet.proofs.SoundSheet.source.Goals as goal

pub returns : goal.returns
unfolding source_of
returns c = let is = rw c.roads.ensures at c.count_at.ensures.0 in (is, rw is (source_below _ _ c.args.self.now.sound _ c.requires))
