use Rattle.model.specs.Judge.{goal_node}
use Rattle.sheet.proofs.Halving.{Within}
use Rattle.sheet.proofs.Sheet.goal_row.Given as goal

abbrev pub invariant-loop-left : goal.invariant-loop-left
invariant-loop-left l = Within (goal_node l.self.bytes.now l.self.counts) l.self.counts.g l.v l.low l.left

abbrev pub decreases-loop-left : goal.decreases-loop-left
decreases-loop-left l = l.left
