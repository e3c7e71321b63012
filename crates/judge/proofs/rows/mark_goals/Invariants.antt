use Rattle.model.specs.Judge.{goal_node}
use Rattle.judge.specs.Marks.{Marks}
use Rattle.judge.proofs.rows.mark_goals.Given as goal

abbrev pub invariant-loop-k : goal.invariant-loop-k
invariant-loop-k l = Marks (goal_node l.sheet.bytes.now l.sheet.counts) l.sheet.counts.n l.marks l.k
