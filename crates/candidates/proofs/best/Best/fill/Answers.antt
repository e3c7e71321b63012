use Rattle.std.proofs.Common.{arith}
use mathlib.Core.List.Memᴰ
use lib.ListN.{length-take}
use Rattle.model.specs.Lists.{fold, insert}
use Rattle.candidates.specs.Found.{lower}
use Rattle.candidates.proofs.best.Best.fill.Goals as goal

pub loop-x-preserved : goal.loop-x-preserved
unfolding fold
loop-x-preserved g c =
    let a = c.loop-x.invariant in
    let next = c.in-Some.ensures.steps in record {
      rising = c.insert.ensures.rising;
      few = rw c.insert.ensures.are (omega (arith, length-take c.args.most (insert lower c.in-Some.x c.loop-x.self)));
      scored = λ y m. (rw next at a.scored) y (Memᴰ.tail m);
      rest = rw c.insert.ensures.are (rw next at a.rest);
    }
