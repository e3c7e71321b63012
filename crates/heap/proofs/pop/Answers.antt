use mathlib.Core.Path.{refl}
use Rattle.heap.proofs.Fronts.{front_pop}
use Rattle.heap.proofs.pop.Goals as goal

pub returns : goal.returns
returns c = (refl, front_pop _ _ _ _ c.requires.len_nonzero.0 c.requires.len_nonzero.1 c.sift_down_to_bottom.ensures)
