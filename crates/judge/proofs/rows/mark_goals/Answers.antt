use Rattle.std.proofs.Common.{sym, arith, ◌≤◌, length}
use Rattle.model.specs.Judge.{goal_node}
use Rattle.judge.proofs.Marking.{marks_next}
use Rattle.judge.proofs.rows.mark_goals.Goals as goal

pub loop-k-preserved : goal.loop-k-preserved
loop-k-preserved c =
    let a = c.args.sheet.now in
    let l = c.loop-k in
    let v = c.goal_node in
    let long : a.counts.n ≤ length l.marks = omega arith in
    marks_next (goal_node a.bytes.now a.counts) a.counts.n l.marks v.result l.k long v.ensures.1 (sym v.ensures.0) l.invariant
