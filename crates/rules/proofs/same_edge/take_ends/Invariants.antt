use Rattle.std.proofs.Common.{◌≡◌, map, take}
use Rattle.sheet.specs.Contents.{contents}
use Rattle.model.specs.Lists.{fold}
use Rattle.model.specs.Legs.{MiddleSearch, pair, take_close}
use Rattle.candidates.specs.Found.{at_road}
use Rattle.rules.specs.Code.{best_of}
use Rattle.rules.proofs.same_edge.take_ends.Given as goal

abbrev pub invariant-loop-end : goal.invariant-loop-end
invariant-loop-end l =
    let t = contents l.sheet in
    (search : MiddleSearch) → best_of search l.best ≡ fold (take_close l.limits) (best_of search l.fn.best) (map (pair (at_road t l.start)) (map (at_road t) (take l.end-index l.ends)))
