use Rattle.std.proofs.Common.{rules}
use Rattle.model.specs.Judge.{goal_node}
use Rattle.judge.proofs.rows.goals_rise.Goals as goal

pub returns : goal.returns
returns c =
    let a = c.args.sheet.now in
    c.rise.ensures (goal_node a.bytes.now a.counts) (λ i lo hi v h. search rules)
