use mathlib.Core.Path.{sym, ◌∙◌}
use native.Mathlib.Omega.{arith}
use Rattle.model.proofs.Fields.{goal_distance_most}
use Rattle.sheet.proofs.GoalLaws.{goal_within, goal_distance_is}
use Rattle.sheet.proofs.Sheet.goal_distance.Goals as goal

pub f64_at-requires : goal.f64_at-requires
f64_at-requires c =
    let pre = c.requires in
    rw (c.goal_width-width.ensures, c.goals.ensures) (omega (arith, goal_within _ _ c.args.self.now.well_formed _ c.requires.0), goal_distance_most _ _ c.args.self.now.well_formed.sound _ c.requires.0 _ c.requires.1)

pub returns : goal.returns
returns c =
    let pre = c.requires in
    rw (c.goals.ensures, c.goal_width-width.ensures) at c.f64_at.ensures ∙ sym (goal_distance_is _ _ _ c.requires.0 _ c.requires.1)
