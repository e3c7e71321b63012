use lib.ListN.{length}
use Rattle.heap.specs.Keys.{key_in}
use Rattle.heap.proofs.Ways.{Up}
use Rattle.heap.proofs.sift_up.Given as goal

abbrev pub invariant-loop-i : goal.invariant-loop-i
invariant-loop-i l = Up (key_in l.key) l.e (length l.key) l.initial.order l.hole l.order l.i

abbrev pub decreases-loop-i : goal.decreases-loop-i
decreases-loop-i l = l.i
