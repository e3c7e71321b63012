use Rattle.heap.proofs.Fronts.{front_push}
use Rattle.heap.proofs.push.Goals as goal

pub returns : goal.returns
returns c = front_push _ _ _ _ _ c.requires.len_in_bounds.0 c.sift_up.ensures
