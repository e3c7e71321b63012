use Rattle.std.proofs.Common.{◌∙◌}
use Rattle.model.specs.Lists.{fold}
use Rattle.full_path.proofs.Coverages.add_terminal.Goals as goal

pub returns-in-Some-clause-added : goal.returns-in-Some-clause-added
unfolding fold
returns-in-Some-clause-added c = λ t e own below known.
    let k = rw c.in-Some.is at known in
    let more = c.add.ensures.added t e own below k.0 in
    (more.0, more.1 ∙ rw (c.in-Some.is, k.1))
