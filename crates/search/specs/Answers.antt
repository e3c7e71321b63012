-- What the answers of the code stand for in the definition, with the areas beside them.
use Rattle.std.specs.Prelude.{ℕ, ◌≤◌, ◌<◌, ◌≡◌, List, [], map, length, get_or, Float, Bool, true, false, Option as Maybe, Some, None, Result, Ok, Err}
use Rattle.std.proofs.Math.Option.{Option, none, some}
use Rattle.model.specs.declared.Counts.{Counts}
use Rattle.model.specs.declared.Road.{Road}
use Rattle.model.specs.Sheet.{Sheet, road_at}
use Rattle.model.specs.Search.{Query, found, none_found, full, State, label_at, real_of, trace, Step, stop, more}
use Rattle.model.specs.Search as astar
use Rattle.search.specs.declared.HeapFull.{HeapFull}
use Rattle.search.specs.declared.SearchEnd.{SearchEnd}
use Rattle.search.specs.declared.SearchEnd.TheVariants as S
use Rattle.search.specs.declared.areas.Label.{Label}
use Rattle.search.specs.declared.areas.Entry.{Entry}
use Rattle.search.specs.Areas.{label_as, back_way, LeadsBack}

-- ---- one road

abbrev pub entry_as : Entry → astar.Entry
entry_as x = record { f_score = x.f_score; g_score = x.g_score; node = x.node }

-- the penalised cost of a label, where there is one
abbrev pub cost_of : Option astar.Label → Maybe Float
cost_of none = None
cost_of (some l) = Some l.penalised

-- the label that is offered, where there is one
abbrev pub offer_as : (ℕ → Road) → Maybe Label → Option astar.Label
offer_as roads None = none
offer_as roads (Some l) = some (label_as roads l)

-- the state after a road or all roads of a node, if no slot was missing
abbrev pub state_after : Result (Unit {0}) HeapFull → State → Option State
state_after (Ok u) st = some st
state_after (Err e) st = none

-- ---- a turn, and the whole search

-- what is found where the goal was taken out of the heap
abbrev pub arrived : ℕ → Query → List (Option astar.Label) → astar.SearchEnd
arrived steps q ls = found (real_of (label_at ls q.goal)) (trace steps ls q.goal [])

-- after a turn: whether it took the goal, if no slot was missing
abbrev pub step_of : ℕ → Query → Result Bool HeapFull → State → Step
step_of steps q (Ok false) st = more st
step_of steps q (Ok true) st = stop (arrived steps q st.labels)
step_of steps q (Err e) st = stop full

-- the end of the search
abbrev pub end_of_search : ℕ → Query → Result Bool HeapFull → List (Option astar.Label) → astar.SearchEnd
end_of_search steps q (Ok false) ls = none_found
end_of_search steps q (Ok true) ls = arrived steps q ls
end_of_search steps q (Err e) ls = full

-- what a search tells: of the roads found, how many they are
unfoldable pub told : astar.SearchEnd → SearchEnd
told (found cost way) = S.Found cost (length way)
told none_found = S.Nothing
told full = S.Full

-- the roads found
unfoldable pub roads_in : astar.SearchEnd → List Road
roads_in (found cost way) = way
roads_in none_found = []
roads_in full = []

-- The marks lead back from the goal over the k roads of the way, fewer than there are nodes.
pub record WayBack (t : Sheet) (c : Counts) (goal : ℕ) (came : List ℕ) (k : ℕ) (way : List Road) : Type 0 where
  pub inside : goal < c.n
  pub size : c.n ≤ length came
  pub few : k < c.n
  pub leads : LeadsBack (road_at t) c.e came k goal
  pub roads : map (road_at t) (back_way (road_at t) came k goal) ≡ way

-- where a way was found
unfoldable pub Traced : Sheet → Counts → ℕ → List ℕ → SearchEnd → List Road → Type 0
Traced t c goal came (S.Found cost k) way = WayBack t c goal came k way
Traced t c goal came S.Nothing way = Unit {0}
Traced t c goal came S.Full way = Unit {0}

-- the first k numbers of a list are those of the e roads
abbrev pub RoadNumbers : ℕ → ℕ → List ℕ → Type 0
RoadNumbers e k xs = (j : ℕ) → j < k → get_or xs j 0 < e
