-- What the code's plans and turns stand for, by what a search finds.
use Rattle.std.specs.Prelude.{ℕ, ◌<◌, ◌≡◌, length, Option, IfSome, Result, Ok, Err, Float}
use Rattle.model.specs.Search.{SearchEnd}
use Rattle.model.specs.Legs.{skip, same_edge, by_search, MiddleSearch, Turn, ends, goes_on, heap_full}
use Rattle.model.specs.Legs as legs
use Rattle.rules.specs.declared.Pair.{Pair}
use Rattle.rules.specs.declared.Middle.{Middle}
use Rattle.rules.specs.declared.Scored.{Scored}
use Rattle.rules.specs.Code.{best_of}
use Rattle.search.specs.declared.HeapFull.{HeapFull}
use Rattle.search.specs.Answers.{roads_in}
use Rattle.pair_plans.specs.declared.PairPlan.{PairPlan}
use Rattle.pair_plans.specs.declared.PairPlan.TheVariants as P

abbrev pub pair_plan_of : MiddleSearch → PairPlan → legs.PairPlan
pair_plan_of search P.Skip = skip
pair_plan_of search (P.SameEdge b) = same_edge (best_of search b)
pair_plan_of search (P.Search bound) = by_search bound

-- the best so far, or a full heap
abbrev pub turn_of : MiddleSearch → Result (Option Scored) HeapFull → Turn
turn_of search (Ok b) = goes_on (best_of search b)
turn_of search (Err full) = ends heap_full

-- what lies between the roads of a pair
abbrev pub way_between : MiddleSearch → Pair → Float → SearchEnd
way_between search p bound = search p.start.road.target p.end.road.source bound

-- a middle is what its search between two of the nodes finds, all of it; no ghost field of a middle, which has no search
abbrev pub MiddleRemembers : MiddleSearch → ℕ → Option Middle → Type 0
MiddleRemembers search nodes middle = IfSome middle (λ m. (m.start < nodes) × (m.goal < nodes) × (length (roads_in (search m.start m.goal m.bound)) ≡ m.count))

abbrev pub Remembers : MiddleSearch → ℕ → Option Scored → Type 0
Remembers search nodes b = IfSome b (λ s. MiddleRemembers search nodes s.path.middle)

abbrev pub PlanRemembers : MiddleSearch → ℕ → PairPlan → Type 0
PlanRemembers search nodes P.Skip = Unit {0}
PlanRemembers search nodes (P.SameEdge b) = Remembers search nodes b
PlanRemembers search nodes (P.Search bound) = Unit {0}
