use mathlib.Core.List.{◌∷◌}
use native.Mathlib.Omega.{arith}
use Rattle.search.proofs.Walks.{back_mark, back_step, back_end, out_step, out_end}
use Rattle.search.proofs.route.Trace.write.Goals as goal

pub source-v-requires : goal.source-v-requires
source-v-requires c = back_mark _ _ _ _ _ _ c.loop-i.invariant.1 (omega arith)

pub loop-i-preserved : goal.loop-i-preserved
loop-i-preserved c =
    let w = c.loop-i.invariant in
    (_ ∷ w.0, back_step _ _ _ _ _ _ w.1 (omega arith) c.source-v.ensures.0 c.source-v.ensures.1, out_step _ w.0 _ _ _ w.1.fewer c.requires w.2 _ (omega arith))

pub returns : goal.returns
returns c = let w = c.loop-i.invariant in out_end _ w.0 _ _ _ w.1.fewer c.requires w.2 (omega arith) (back_end _ _ _ _ _ _ w.1 (omega arith))
