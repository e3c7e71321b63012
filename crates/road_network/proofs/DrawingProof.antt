-- The drawing, by computing.
use mathlib.Core.Path.{refl}
use Rattle.model.proofs.Computes.{computes}
use Rattle.road_network.specs.Graph.{decided, reads}
use Rattle.road_network.specs.Drawing.{Drawn}

pub drawn : Drawn
unfolding computes decided reads
drawn = record { through = (refl, refl); looped = (refl, refl); on = (refl, refl); back = (refl, refl) }
