use mathlib.Core.Path.{◌∙◌}
use Rattle.heap.proofs.Ways.{down_start, down_step, down_one, down_none}
use Rattle.heap.proofs.sift_down_to_bottom.Goals as goal
use Rattle.heap.proofs.sift_down_to_bottom.Goals.{then-left-end, else-left-end}

pub loop-left-init : goal.loop-left-init
loop-left-init c = down_start _ _ _ _ _ c.requires.below

pub loop-left-preserved : goal.loop-left-preserved
loop-left-preserved c = down_step _ _ _ _ _ _ _ _ _ c.loop-left.invariant c.loop-left-test.true c.greater_child-c.ensures

pub returns : goal.returns
returns c =
    c.sift_up.ensures
    ∙ elim c.if-left-end.branch [
      | then-left-end w ↦ rw (w.order-is, w.i-is) (down_one _ _ _ _ _ _ _ _ c.loop-left.invariant w.if-left-end.true)
      | else-left-end w ↦ rw (w.order-is, w.i-is) (down_none _ _ _ _ _ _ _ _ c.loop-left.invariant c.loop-left-test.false w.if-left-end.false)
    ]
