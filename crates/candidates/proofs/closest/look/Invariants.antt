use Rattle.std.proofs.Common.{◌≡◌, ◌+◌, ◌≤◌, length}
use Rattle.std.specs.Iterator.{size}
use Rattle.model.specs.Layout.{most_measured}
use Rattle.candidates.specs.Nearest.{least_of}
use Rattle.candidates.proofs.closest.look.Given as goal

abbrev pub invariant-loop-x : goal.invariant-loop-x
invariant-loop-x g l = record {
  passing : l.passing ≡ length l.yielded;
  least : l.least ≡ least_of l.yielded;
  few : length l.yielded + size (g.I.Iterator.remaining l.x-iterator) ≤ most_measured;
}
