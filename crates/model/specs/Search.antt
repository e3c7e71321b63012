-- "The search": bounded_astar.
--
--     0 --10--> 1 --10--> 3       from 0 to 3: found over 1 with 20 metres (`drawn` in Edges.antt)
--     0 --10--> 2 --20--> 3
--
-- The roads leaving a node, their penalties and the distances to the goal are parameters.
use Rattle.std.specs.Prelude.{ℕ, zero, suc, ◌-◌, Bool, false, cond, ◌||◌, List, [], ◌∷◌, ◌++◌, eqb, ltb, length, get_or, set, replicate, Float}
use Rattle.std.proofs.Math.Option.{Option, none, some}
use Rattle.model.specs.declared.Road.{Road}
use Rattle.model.specs.Numbers.{◌⊕◌, ◌<ᶠ◌, ◌≤ᶠ◌, f0}
use Rattle.model.specs.Lists.{when, maybe}
use Rattle.model.specs.Heap.{push, pop}

-- What a search is asked: the way to `goal`, no path longer than `max_cost` metres, `heuristic v` being the distance from v to the goal.
pub record Query : Type 0 where
  pub nodes : ℕ
  pub leaving : ℕ → List Road
  pub penalty : Road → Float
  pub heuristic : ℕ → Float
  pub goal : ℕ
  pub max_cost : Float

-- A search ends as found with its cost and its roads in travel order, as none or as full.
pub data SearchEnd : Type 0 where
  found : Float → List Road → SearchEnd
  none_found : SearchEnd
  full : SearchEnd

-- ---- the state

-- A node's label: real and penalised cost from the start, and the road it came by, none at the start.
pub record Label : Type 0 where
  pub real : Float
  pub penalised : Float
  pub came_from : Option Road

-- A heap entry: its g-score is the penalised cost, its f-score that and the distance to the goal.
pub record Entry : Type 0 where
  pub f_score : Float
  pub g_score : Float
  pub node : ℕ

-- The labels of all nodes; the entries made so far, in that order; the heap of their numbers.
pub record State : Type 0 where
  pub labels : List (Option Label)
  pub made : List Entry
  pub heap : List ℕ

abbrev pub label_at : List (Option Label) → ℕ → Option Label
label_at ls v = get_or ls v none

abbrev pub no_entry : Entry
no_entry = record { f_score = f0; g_score = f0; node = 0 }

abbrev pub entry_at : List Entry → ℕ → Entry
entry_at es k = get_or es k no_entry

abbrev pub f_score_of : List Entry → ℕ → Float
f_score_of es k = (entry_at es k).f_score

unfoldable pub real_of : Option Label → Float
real_of none = f0
real_of (some l) = l.real

-- a label with this penalised cost is there already, or a better one
unfoldable pub dominated : Option Label → Float → Bool
dominated none g = false
dominated (some l) g = l.penalised ≤ᶠ g

-- the entry was made before a better label
unfoldable pub stale : Option Label → Float → Bool
stale none g = false
stale (some l) g = l.penalised <ᶠ g

-- ---- one road

-- The label that road r offers its target from the entry e. Real length decides the bound, penalised cost decides dominance.
unfoldable pub offered : Query → Entry → List (Option Label) → Road → Option Label
offered q e ls r =
    let real = real_of (label_at ls e.node) ⊕ r.length_m in
    let cost = e.g_score ⊕ r.length_m ⊕ q.penalty r in
    cond (q.max_cost <ᶠ real || dominated (label_at ls r.target) cost) none (some record { real = real; penalised = cost; came_from = some r })

-- Node v gets the label l and an entry. None: the heap has no slot left; slots are not reused.
unfoldable pub entered : ℕ → Query → State → ℕ → Label → Option State
entered slots q st v l =
    let made = st.made ++ record { f_score = l.penalised ⊕ q.heuristic v; g_score = l.penalised; node = v } ∷ [] in
    when (ltb (length st.made) slots) record { labels = set st.labels v (some l); made = made; heap = push (f_score_of made) st.heap (length st.made) }

unfoldable pub relax : ℕ → Query → Entry → State → Road → Option State
relax slots q e st r = maybe (offered q e st.labels r) (some st) (entered slots q st r.target)

unfoldable pub relax_all : ℕ → Query → Entry → List Road → State → Option State
relax_all slots q e [] st = some st
relax_all slots q e (r ∷ rs) st = maybe (relax slots q e st r) none (relax_all slots q e rs)

-- ---- the walk back

unfoldable pub came_from : Option Label → Option Road
came_from none = none
came_from (some l) = l.came_from

-- the roads back from node v to the start, in front of `path`, at most k of them
unfoldable pub trace : ℕ → List (Option Label) → ℕ → List Road → List Road
trace zero ls v path = path
trace (suc k) ls v path = maybe (came_from (label_at ls v)) path (λ r. trace k ls r.source (r ∷ path))

-- ---- the search

pub data Step : Type 0 where
  stop : SearchEnd → Step
  more : State → Step

unfoldable pub expanded : Option State → Step
expanded none = stop full
expanded (some st) = more st

-- The entry e was taken out of the heap. The goal is tested before the stale test, and the cost is the real label kept at the goal.
unfoldable pub visit : ℕ → ℕ → Query → Entry → State → Step
visit steps slots q e st =
    cond (eqb e.node q.goal) (stop (found (real_of (label_at st.labels q.goal)) (trace steps st.labels q.goal [])))
    (cond (stale (label_at st.labels e.node) e.g_score) (more st)
    (expanded (relax_all slots q e (q.leaving e.node) st)))

unfoldable pub take_step : ℕ → ℕ → Query → List ℕ → State → Step
take_step steps slots q [] st = stop none_found
take_step steps slots q (top ∷ rest) st = visit steps slots q (entry_at st.made top) record { labels = st.labels; made = st.made; heap = pop (f_score_of st.made) st.heap }

unfoldable pub onward : Step → (State → SearchEnd) → SearchEnd
onward (stop f) next = f
onward (more st) next = next st

-- Turns, each taking one entry, and steps of the walk back are bounded; crate bounds shows that neither bound is ever met.
unfoldable pub run : ℕ → ℕ → ℕ → Query → State → SearchEnd
run steps zero slots q st = none_found
run steps (suc k) slots q st = onward (take_step steps slots q st.heap st) (run steps k slots q)

-- the start's label and its entry, which takes the first slot
unfoldable pub begun : Query → ℕ → State
begun q start = record {
  labels = set (replicate q.nodes none) start (some record { real = f0; penalised = f0; came_from = none });
  made = record { f_score = q.heuristic start; g_score = f0; node = start } ∷ [];
  heap = 0 ∷ [];
}

-- with any bounds on the steps back and on the turns
unfoldable pub search_within : ℕ → ℕ → ℕ → Query → ℕ → SearchEnd
search_within steps turns slots q start = run steps turns slots q (begun q start)

-- A heap of `slots` entries; without one it is full at once, since the start's entry counts too. No node comes twice on the walk back, and no more entries are taken than made.
unfoldable pub bounded_astar : ℕ → Query → ℕ → SearchEnd
bounded_astar zero q start = full
bounded_astar (suc k) q start = search_within (q.nodes - 1) (suc k) (suc k) q start

-- a way of answering queries, from a start node
abbrev pub Search : Type 0
Search = Query → ℕ → SearchEnd
