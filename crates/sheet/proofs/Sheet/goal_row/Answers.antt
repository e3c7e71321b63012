use Prim.Native.Nat.{◌+◌, ◌/◌, ◌<◌}
use mathlib.Core.Path.{sym, ◌∙◌}
use native.Mathlib.Omega.{arith}
use Rattle.sheet.proofs.GoalLaws.{goals_rise, goal_found, goal_missing}
use Rattle.sheet.proofs.Halving.{within_none, within_upper, within_lower}
use Rattle.sheet.proofs.Sheet.goal_row.Goals as goal

pub returns-then-node-v : goal.returns-then-node-v
returns-then-node-v c =
    let loop = c.loop-left in
    let start = c in
    let h : loop.low + loop.left / 2 < c.args.self.now.counts.g = omega (arith, loop.invariant.fits) in
    (h, goal_found _ _ c.args.self.now.well_formed _ _ h (sym (rw (c.sound.ensures.0, c.sound.ensures.1) at c.goal_node-node.ensures.0) ∙ c.if-node-v.true))

pub loop-left-preserved-then-node-v-2 : goal.loop-left-preserved-then-node-v-2
loop-left-preserved-then-node-v-2 c =
    let loop = c.loop-left in
    let start = c in
    within_upper _ _ _ (goals_rise _ _ c.args.self.now.well_formed) _ _ (loop.left / 2) (omega arith) loop.invariant (omega (arith, rw (c.sound.ensures.0, c.sound.ensures.1) at c.goal_node-node.ensures.0))

pub loop-left-preserved : goal.loop-left-preserved
loop-left-preserved c =
    let loop = c.loop-left in
    let start = c in
    within_lower _ _ _ (goals_rise _ _ c.args.self.now.well_formed) _ _ (loop.left / 2) (omega arith) loop.invariant (omega (arith, rw (c.sound.ensures.0, c.sound.ensures.1) at c.goal_node-node.ensures.0))

pub returns : goal.returns
returns c = goal_missing _ _ _ (within_none _ _ _ _ _ (omega arith) c.loop-left.invariant)
