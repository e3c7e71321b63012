use Rattle.search.proofs.Walks.{Walking}
use Rattle.model.specs.Sheet.{road_at}
use Rattle.sheet.specs.Contents.{contents}
use Prim.Native.Nat.{◌-◌}
use Rattle.search.proofs.route.count_back.Given as goal

abbrev pub invariant-loop-k : goal.invariant-loop-k
invariant-loop-k l =
    Walking l.sheet.counts.n l.sheet.counts.e (road_at (contents l.sheet)) l.came_from l.goal l.i l.k

abbrev pub decreases-loop-k : goal.decreases-loop-k
decreases-loop-k l =
    l.sheet.counts.n - 1 - l.i
