-- What a leg's answers stand for in the definition, and what its areas hold.
use Rattle.std.specs.Prelude.{ℕ, List, Option, IfSome, Result, Ok, Err}
use Rattle.model.specs.declared.Road.{Road}
use Rattle.model.specs.declared.Limits.{Limits}
use Rattle.model.specs.Lists.{filter}
use Rattle.model.specs.Sheet.{Sheet, leaving_roads}
use Rattle.model.specs.View as definition
use Rattle.model.specs.View.{permits, view}
use Rattle.model.specs.Search.{bounded_astar}
use Rattle.model.specs.Legs.{MiddleSearch, LegEnd, best, no_path, heap_full, leg_end, next_pair}
use Rattle.model.specs.Decode.{middle_search}
use Rattle.sheet.specs.Contents.{contents}
use Rattle.rules.specs.declared.Middle.{Middle}
use Rattle.rules.specs.declared.PathResult.{PathResult}
use Rattle.rules.specs.declared.Scored.{Scored}
use Rattle.rules.specs.Code.{with_middle, middle_in}
use Rattle.pair_plans.specs.Turns.{turn_of}
use Rattle.search.specs.declared.HeapFull.{HeapFull}
use Rattle.search.specs.declared.SearchEnd.{SearchEnd}
use Rattle.search.specs.declared.areas.SearchAreas.{SearchAreas}
use Rattle.search.specs.Answers.{WayBack, Traced}
use Rattle.legs.specs.declared.Leg.{Leg}
use Rattle.legs.specs.declared.LegError.{LegError}
use Rattle.legs.specs.declared.LegError.TheVariants as L

-- ---- a leg on the sheet t

-- the leg within these limits
abbrev pub leg_at : Sheet → Limits → definition.Leg
leg_at t limits = record { limits = limits; leaving = λ v. filter (permits limits.constraints) (leaving_roads t v) }

-- its searches, with a heap of `slots` entries
unfoldable pub middle_search_at : Sheet → ℕ → Limits → MiddleSearch
middle_search_at t slots limits = middle_search (view t) (bounded_astar slots) (leg_at t limits)

-- with as many entries as the areas have slots
abbrev pub search_of : Leg → SearchAreas → MiddleSearch
search_of leg areas = middle_search_at (contents areas.sheet) areas.slots leg.limits

-- ---- the answers

-- the leg's end after its pairs: the best so far, or the heap is used up
abbrev pub end_after_pairs : MiddleSearch → Result (Option Scored) HeapFull → LegEnd
end_after_pairs search r = next_pair (turn_of search r) leg_end

abbrev pub leg_end_of : MiddleSearch → Result PathResult LegError → LegEnd
leg_end_of search (Ok r) = best (with_middle r (middle_in search r.middle))
leg_end_of search (Err L.NoPath) = no_path
leg_end_of search (Err L.HeapFull) = heap_full

-- ---- the roads, by the marks

-- the marks lead back over a way, where it was found
abbrev pub LedBy : ℕ → SearchAreas → SearchEnd → List Road → Type 0
LedBy goal areas m way = Traced (contents areas.sheet) areas.sheet.counts goal areas.came_from.now m way

-- and over the middle of a route, if it has one
abbrev pub Led : MiddleSearch → SearchAreas → Option Middle → Type 0
Led search areas middle = IfSome middle (λ m. WayBack (contents areas.sheet) areas.sheet.counts m.goal areas.came_from.now m.count (middle_in search middle))
