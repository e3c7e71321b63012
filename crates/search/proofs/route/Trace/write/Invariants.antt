use Rattle.std.proofs.Common.{◌≡◌, ℕ, List, ◌++◌, take, drop}
use Rattle.model.specs.Sheet.{road_at}
use Rattle.sheet.specs.Contents.{contents}
use Rattle.search.proofs.Walks.{Backed}
use Rattle.search.proofs.route.Trace.write.Given as goal

abbrev pub invariant-loop-i : goal.invariant-loop-i
invariant-loop-i l =
    (walked : List ℕ) × Backed l.self.sheet.counts.e (road_at (contents l.self.sheet)) l.self.came_from.now l.self.sheet.counts.n l.self.goal l.self.count walked l.i l.v × (l.out ≡ take l.i l.initial.out ++ (walked ++ drop l.self.count l.initial.out))
