use Rattle.std.proofs.Common.{◌≡◌}
use Rattle.candidates.proofs.Inserting.{Shifting}
use Rattle.candidates.proofs.best.Best.insert.Given as goal

abbrev pub invariant-loop-j : goal.invariant-loop-j
invariant-loop-j g l = record {
  place : l.place ≡ l.j;
  shifting : Shifting l.x l.initial.self-inside.items l.self-inside.items l.stay l.place;
}
