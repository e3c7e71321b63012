use Rattle.heap.proofs.Fronts.{below_front}
use Rattle.heap.proofs.Heap.push.Goals as goal

pub push-requires-clause-below : goal.push-requires-clause-below
push-requires-clause-below c =
    let below = rw (← c.self.view_is) at c.requires.below.0 in
    below_front _ _ _ c.self.invariant below
