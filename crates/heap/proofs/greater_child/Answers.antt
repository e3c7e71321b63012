use native.Mathlib.Omega.{arith}
use Rattle.model.specs.Heap.{child}
use Rattle.heap.proofs.greater_child.Goals as goal

pub returns-then-key-order : goal.returns-then-key-order
unfolding child
returns-then-key-order c = (simp c.if-key-order.true, omega arith, omega arith)

pub returns-else-key-order : goal.returns-else-key-order
unfolding child
returns-else-key-order c = (simp c.if-key-order.false, omega arith, omega arith)
