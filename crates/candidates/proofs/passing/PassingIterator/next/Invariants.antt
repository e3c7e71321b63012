use Rattle.std.proofs.Common.{◌≡◌, ◌≤◌, ◌-◌}
use Rattle.candidates.specs.Rows.{left}
use Rattle.candidates.proofs.passing.PassingIterator.next.Given as goal

abbrev pub invariant-loop-k : goal.invariant-loop-k
invariant-loop-k l = let a = l.self-inside in let b = l.initial.self-inside in record {
  same : left a.sheet.bytes.now a.sheet.counts a.settings a.point a.rows.start a.rows.end ≡ left b.sheet.bytes.now b.sheet.counts b.settings b.point b.rows.start b.rows.end;
  class : a.point.frc ≤ 7;
  inside : a.rows.end ≤ a.sheet.counts.m;
}

abbrev pub decreases-loop-k : goal.decreases-loop-k
decreases-loop-k l = l.self-inside.rows.end - l.self-inside.rows.start
