-- The marked set, by computing.
use mathlib.Core.Path.{refl}
use Rattle.model.specs.Marked.{MarkedSet}
use Rattle.model.proofs.Computes.{computes}

pub marked_set : MarkedSet
unfolding computes
marked_set = record {
  s1 = refl;
  s2 = refl;
  s3 = refl;
  s4 = refl;
  s5 = (refl, refl);
  s6 = refl;
  s7 = (refl, refl);
  s8 = (refl, refl);
  s9 = refl;
  s10 = refl;
  s11 = (refl, refl);
  s12 = refl;
}
