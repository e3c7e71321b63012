use Rattle.model.specs.Layout.{counts_of}
use Rattle.sheet.proofs.numbers.counts.Goals as goal

pub returns : goal.returns
unfolding counts_of
returns c = cc
