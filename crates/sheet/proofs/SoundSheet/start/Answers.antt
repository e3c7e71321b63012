use Rattle.model.specs.Judge.{start_of}
use Rattle.sheet.proofs.SoundSheet.start.Goals as goal

pub returns : goal.returns
unfolding start_of
returns c = rw c.lists.ensures at c.count_at.ensures.0
