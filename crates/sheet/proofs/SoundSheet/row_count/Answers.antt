use Rattle.model.proofs.Fields.{count_most}
use Rattle.model.specs.Judge.{row_count}
use Rattle.sheet.proofs.SoundSheet.row_count.Goals as goal

pub returns : goal.returns
unfolding row_count
returns c = (c.count_at.ensures.0, rw c.count_at.ensures.0 (count_most _ _ c.args.self.now.sound _ c.requires))
