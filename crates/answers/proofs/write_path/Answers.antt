use Rattle.std.proofs.Common.{arith, ap₂}
use Rattle.model.specs.Call.{written}
use Rattle.model.specs.Numbers.{f0}
use Rattle.model.proofs.Fill.{map_step}
use Rattle.answers.specs.Room.{lists}
use Rattle.answers.proofs.Written.{padded}
use Rattle.answers.proofs.write_path.Goals as goal

pub loop-j-preserved : goal.loop-j-preserved
loop-j-preserved c = record {
  ids = map_step _ c.args.path.now 0 c.loop-j.invariant.ids (omega arith) (omega arith) c.id.ensures;
  lengths = map_step _ c.args.path.now 0 c.loop-j.invariant.lengths (omega arith) (omega arith) c.length_m.ensures;
}

pub returns : goal.returns
unfolding written
returns c = ap₂ lists
    (padded 0 _ c.args.path.now _ _ c.loop-j.invariant.ids (omega arith) c.requires.0 (c.fill.ensures.after (λ y is. is)) (omega arith) (omega arith))
    (padded f0 _ c.args.path.now _ _ c.loop-j.invariant.lengths (omega arith) c.requires.1 (c.fill-2.ensures.after (λ y is. is)) (omega arith) (omega arith))
