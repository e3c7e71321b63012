use Rattle.std.proofs.Common.{take_all, arith}
use mathlib.Core.Path.{◌∙◌}
use Rattle.model.specs.Candidates.{is_access_road}
use Rattle.model.specs.Lists.{any}
use Rattle.road_network.proofs.Comparing.{compared}
use Rattle.road_network.proofs.road_class.is_access_road.Goals as goal

pub returns : goal.returns
unfolding is_access_road any
returns c = c.contains.ensures.value ∙ simp compared (grind (arith, take_all))
