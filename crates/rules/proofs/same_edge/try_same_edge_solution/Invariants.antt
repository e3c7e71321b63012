use Rattle.std.proofs.Common.{◌≡◌, map, take}
use Rattle.std.proofs.Math.Option.{none}
use Rattle.sheet.specs.Contents.{contents}
use Rattle.model.specs.Lists.{fold}
use Rattle.model.specs.Legs.{MiddleSearch, pairs, take_close}
use Rattle.candidates.specs.Found.{at_road}
use Rattle.rules.specs.Code.{best_of}
use Rattle.rules.proofs.same_edge.try_same_edge_solution.Given as goal

abbrev pub invariant-loop-start : goal.invariant-loop-start
invariant-loop-start l =
    let t = contents l.sheet in
    (search : MiddleSearch) → best_of search l.best ≡ fold (take_close l.limits) none (pairs (map (at_road t) (take l.start-index l.starts)) (map (at_road t) l.ends))
