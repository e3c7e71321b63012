use Rattle.std.proofs.Common.{map, arith}
use Rattle.std.proofs.lemmas.Grind.{common_steps}
use Rattle.sheet.specs.Contents.{contents}
use Rattle.candidates.specs.Found.{at_road, no_item}
use Rattle.rules.proofs.OneRoad.{starts_more}
use Rattle.rules.proofs.same_edge.try_same_edge_solution.Goals as goal

pub loop-start-preserved : goal.loop-start-preserved
loop-start-preserved c search = let a = c.args in let g = at_road (contents a.sheet.now) in
    let taken = c.take_ends-best.ensures search in
    let so_far = c.loop-start.invariant search in
    let more = starts_more a.limits g a.starts.now (map g a.ends.now) c.loop-start.start-index no_item c.loop-start-test.true in
    grind (arith, common_steps)
