use Rattle.std.proofs.Common.{add-zero}
use Rattle.model.proofs.Fields.{goal_node_below}
use Rattle.model.specs.Judge.{goal_node}
use Rattle.sheet.proofs.SoundSheet.goal_node.Goals as goal

pub returns : goal.returns
unfolding goal_node
returns c = let is = rw (c.goals.ensures, c.goal_width-width.ensures) at c.count_at.ensures.0 in (rw add-zero is, rw is (rw add-zero at (goal_node_below _ _ c.args.self.now.sound _ c.requires)))
