use Rattle.std.proofs.Common.{◌∙◌, sym}
use Rattle.ranges.proofs.Running.{measures_run}
use Rattle.ranges.proofs.measures.measures.Goals as goal

pub returns : goal.returns
returns c = let a = c.args in c.distances.ensures ∙ sym (measures_run a.s.now a.at a.off a.k)
