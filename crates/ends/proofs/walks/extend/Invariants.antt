use Prim.Native.Nat.{◌-◌, ◌*◌}
use Rattle.sheet.specs.Contents.{contents}
use Rattle.ends.proofs.Turns.{Walking}
use Rattle.ends.proofs.walks.extend.Given as goal

abbrev pub invariant-loop-x : goal.invariant-loop-x
invariant-loop-x g l = Walking (contents l.sheet) g.D.Direction.forward l.cap l.path l.sheet.counts.e l.r l.room l.road l.count l.metres

abbrev pub decreases-loop-x : goal.decreases-loop-x
decreases-loop-x g l = 2 * l.sheet.counts.n - l.count
