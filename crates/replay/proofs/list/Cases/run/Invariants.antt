use Rattle.std.proofs.Common.{◌≤◌}
use Rattle.replay.proofs.list.Cases.run.Given as goal

abbrev pub invariant-loop-i : goal.invariant-loop-i
invariant-loop-i g l = goal.F-IsAlwaysCallable g l.differs × (l.differ ≤ l.i)
