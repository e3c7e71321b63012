use Rattle.std.proofs.Common.{◌≡◌}
use Rattle.std.specs.List.{reduce}
use Rattle.full_path.specs.Left.{paired}
use Rattle.full_path.proofs.Greatest.{greater, greatest_on}
use Rattle.full_path.proofs.coverage.primary_edge.Given as goal

abbrev pub invariant-loop-road : goal.invariant-loop-road
invariant-loop-road l = greatest_on l.best (paired l.road-iterator.a.rest.now l.road-iterator.b.rest.now) ≡ reduce greater (paired l.fn.roads l.fn.metres)
