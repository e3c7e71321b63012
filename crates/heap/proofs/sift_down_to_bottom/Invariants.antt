use Prim.Native.Nat.{◌-◌}
use lib.ListN.{length}
use Rattle.heap.specs.Keys.{key_in}
use Rattle.heap.proofs.Ways.{Down}
use Rattle.heap.proofs.sift_down_to_bottom.Given as goal

abbrev pub invariant-loop-left : goal.invariant-loop-left
invariant-loop-left l = Down (key_in l.key) l.e l.end (length l.key) l.initial.order l.order l.i l.left

abbrev pub decreases-loop-left : goal.decreases-loop-left
decreases-loop-left l = l.end - l.i
