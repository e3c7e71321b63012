use borrow.Author.Tests.{not-false}
use Rattle.ends.proofs.Starts.{far_none}
use Rattle.ends.proofs.walks.may_start.Goals as goal

pub returns : goal.returns
returns g c = λ e path. far_none _ _ _ _ _ (rw c.in-Some.is at c.way.ensures).0 c.length_m-metres.ensures (not-false _ e)
