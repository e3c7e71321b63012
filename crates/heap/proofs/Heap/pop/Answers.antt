use native.Mathlib.Omega.{arith}
use Rattle.heap.proofs.Fronts.{pop_none, below_front}
use Rattle.heap.proofs.Heap.pop.Goals as goal

pub returns-then-self-eq0-clause-left : goal.returns-then-self-eq0-clause-left
returns-then-self-eq0-clause-left c = rw (← c.self.view_is, c.if-self-eq0.true, pop_none)

pub pop-top-requires-clause-below : goal.pop-top-requires-clause-below
pop-top-requires-clause-below c =
    let below = rw (← c.self.view_is) at c.requires in
    below_front _ _ _ c.self.invariant below

pub returns-clause-below : goal.returns-clause-below
returns-clause-below c =
    let below = rw (← c.self.view_is) at c.requires in
    rw c.pop-top.ensures.0 (below_front _ _ _ c.self.invariant below _ (omega arith))
