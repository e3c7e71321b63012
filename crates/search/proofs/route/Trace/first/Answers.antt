use mathlib.Core.List.{◌∷◌}
use mathlib.Core.Path.{refl}
use native.Mathlib.Omega.{arith}
use Rattle.search.proofs.Walks.{back_mark, back_step, back_end}
use Rattle.search.proofs.route.Trace.first.Goals as goal

pub source-v-requires : goal.source-v-requires
source-v-requires c = back_mark _ _ _ _ _ _ c.loop.invariant.1 (omega arith)

pub loop-preserved : goal.loop-preserved
loop-preserved c = let w = c.loop.invariant in (_ ∷ w.0, back_step _ _ _ _ _ _ w.1 (omega arith) c.source-v.ensures.0 c.source-v.ensures.1, refl)

pub returns : goal.returns
returns c = let w = c.loop.invariant in rw (back_end _ _ _ _ _ _ w.1 (omega arith)) w.2
