-- A path that stands for one path, whatever a search finds, has no roads between its terminal ones.
use Rattle.std.proofs.Common.{◌≡◌, Option, Some, None, false, List, [], ◌∷◌, ◌++◌, map, length, refl, sym, ap, ◌∙◌, arith, length-append}
use Rattle.std.proofs.Math.Option as definition
use Rattle.model.specs.declared.Road.{Road}
use Rattle.model.specs.Numbers.{f0}
use Rattle.model.specs.Search.{found}
use Rattle.model.specs.Legs as legs
use Rattle.model.specs.Legs.{EdgeCoverage, MiddleSearch, whole}
use Rattle.search.specs.Answers.{roads_in}
use Rattle.rules.specs.declared.Middle.{Middle}
use Rattle.rules.specs.declared.Scored.{Scored}
use Rattle.rules.specs.Code.{middle_in, no_search, BestIs}

abbrev some_road : Road
some_road = record { number = 0; id = 0; length_m = f0; source = 0; target = 0; frc = 0; fow = 0; access = false }

abbrev one_road : MiddleSearch
one_road start goal bound = found f0 (some_road ∷ [])

none_between : (m : Option Middle) (head tail : List EdgeCoverage) → head ++ map whole (middle_in one_road m) ++ tail ≡ head ++ map whole (middle_in no_search m) ++ tail → m ≡ None
unfolding middle_in roads_in
none_between None head tail e = refl
none_between (Some m) head tail e = absurd (omega (arith, length-append {A = EdgeCoverage}, ap length e))

coverages : definition.Option legs.Scored → List EdgeCoverage
coverages definition.none = []
coverages (definition.some s) = s.path.coverages

pub best_alone : (b : Scored) (s : definition.Option legs.Scored) → BestIs (Some b) s → b.path.middle ≡ None
unfolding coverages
best_alone b s is = none_between b.path.middle _ _ (ap coverages (is one_road ∙ sym (is no_search)))
