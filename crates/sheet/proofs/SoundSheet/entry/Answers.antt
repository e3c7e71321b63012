use Rattle.std.proofs.Common.{add-zero}
use Rattle.model.proofs.Fields.{entry_below}
use Rattle.model.specs.Judge.{entry_of}
use Rattle.sheet.proofs.SoundSheet.entry.Goals as goal

pub returns : goal.returns
unfolding entry_of
returns c = let is = rw c.numbers.ensures at c.count_at.ensures.0 in (rw add-zero is, rw is (rw add-zero at (entry_below _ _ c.args.self.now.sound _ c.requires)))
