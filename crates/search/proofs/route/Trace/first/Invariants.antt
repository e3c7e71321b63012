use Rattle.std.proofs.Common.{◌≡◌, ℕ, ◌-◌, List}
use Rattle.std.specs.Prelude.{slice_get}
use Rattle.model.specs.Sheet.{road_at}
use Rattle.sheet.specs.Contents.{contents}
use Rattle.search.proofs.Walks.{Backed}
use Rattle.search.proofs.route.Trace.first.Given as goal

abbrev pub invariant-loop : goal.invariant-loop
invariant-loop l =
    (walked : List ℕ) × Backed l.self.sheet.counts.e (road_at (contents l.self.sheet)) l.self.came_from.now l.self.sheet.counts.n l.self.goal l.self.count walked (l.self.count - l.counter) l.v × (l.first ≡ slice_get walked 0)
