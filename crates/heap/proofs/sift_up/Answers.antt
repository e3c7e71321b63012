use Rattle.heap.proofs.Ways.{up_step, up_root, up_stop}
use Rattle.heap.proofs.sift_up.Goals as goal
use Rattle.heap.proofs.sift_up.Goals.{else-loop-i-test, then-loop-i-test+then-stays}

pub loop-i-preserved : goal.loop-i-preserved
loop-i-preserved c = up_step _ _ _ _ _ _ _ c.loop-i.invariant c.loop-i-test.true c.if-stays.false

pub returns : goal.returns
returns c =
    elim c.loop-i-test.branch [
      | else-loop-i-test w ↦ up_root _ _ _ _ _ _ _ c.loop-i.invariant w.loop-i-test.false
      | then-loop-i-test+then-stays w ↦ up_stop _ _ _ _ _ _ _ c.loop-i.invariant w.loop-i-test.true w.if-stays.true
    ]
