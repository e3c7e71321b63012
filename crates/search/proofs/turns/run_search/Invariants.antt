use Rattle.std.proofs.Common.{◌+◌, ◌-◌, length}
use Rattle.model.specs.Sheet.{road_at}
use Rattle.model.specs.Search.{run}
use Rattle.sheet.specs.Contents.{contents}
use Rattle.search.specs.Query.{query_at}
use Rattle.search.specs.Areas.{columns, state_at, SameRoom}
use Rattle.search.proofs.Runs.{Running}
use Rattle.search.proofs.turns.run_search.Given as goal

abbrev pub invariant-loop-entry : goal.invariant-loop-entry
invariant-loop-entry l =
    SameRoom l.initial.areas l.areas × Running l.search.sheet.counts.n l.search.sheet.counts.e l.initial.areas.slots (query_at l.search) (road_at (contents l.search.sheet))
    (λ steps. run steps l.initial.areas.slots l.initial.areas.slots (query_at l.search) (state_at l.search.sheet l.initial.areas))
    (columns l.areas)

abbrev pub decreases-loop-entry : goal.decreases-loop-entry
decreases-loop-entry l = l.initial.areas.slots + length l.areas.heap.items - l.areas.made
