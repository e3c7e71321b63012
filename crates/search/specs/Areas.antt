-- What the lent areas stand for in the definition: the labels of all nodes, the entries made so far, and the heap. What stands behind them has no part.
use Rattle.std.specs.Prelude.{ℕ, zero, suc, ◌+◌, ◌-◌, ◌≤◌, ◌<◌, ◌≡◌, ◌⊎◌, ◌≢◌, cond, List, [], ◌∷◌, ◌++◌, eqb, length, get_or, set, Float, Option as Maybe, Some, None}
use Rattle.std.specs.Option.{unwrap_or}
use Rattle.std.specs.Coded.{×_prop, Unit-prop, le_prop}
use Rattle.std.proofs.Math.Option.{Option, none, some}
use Rattle.std.specs.Float.{nan}
use Rattle.model.specs.declared.Counts.{Counts}
use Rattle.model.specs.declared.Road.{Road}
use Rattle.model.specs.Layout.{most_roads}
use Rattle.model.specs.Lists.{tabulate}
use Rattle.model.specs.Sheet.{road_at}
use Rattle.model.specs.Heap.{push}
use Rattle.model.specs.Search.{State}
use Rattle.model.specs.Search as astar
use Rattle.model.specs.Call.{most_entries}
use Rattle.heap.specs.Keys.{key_in, Below}
use Rattle.sheet.specs.declared.Sheet.{Sheet}
use Rattle.sheet.specs.Contents.{contents}
use Rattle.search.specs.declared.areas.Label.{Label}
use Rattle.search.specs.declared.areas.Entry.{Entry}
use Rattle.search.specs.declared.areas.SearchAreas.{SearchAreas}
use Rattle.search.specs.declared.costs.Search.{Search}

-- ---- labels

-- marks in place of a road's number: the node is not reached; the node is the start
abbrev pub unreached : ℕ
unreached = 4294967295

abbrev pub start_mark : ℕ
start_mark = 4294967294

unfoldable pub came_by : (ℕ → Road) → ℕ → Option Road
came_by roads k = cond (eqb k start_mark) none (some (roads k))

-- the label that the costs x and y and the mark k of a node stand for
unfoldable pub marked : (ℕ → Road) → Float → Float → ℕ → Option astar.Label
marked roads x y k = cond (eqb k unreached) none (some record { real = x; penalised = y; came_from = came_by roads k })

abbrev pub label_of : (ℕ → Road) → List Float → List Float → List ℕ → ℕ → Option astar.Label
label_of roads real penalised came v = marked roads (get_or real v nan) (get_or penalised v nan) (get_or came v 0)

-- the labels of n nodes; `roads k` is road k
unfoldable pub labels_of : (ℕ → Road) → ℕ → List Float → List Float → List ℕ → List (Option astar.Label)
labels_of roads n real penalised came = tabulate n 0 (label_of roads real penalised came)

-- a label of the code
abbrev pub road_of : (ℕ → Road) → Maybe ℕ → Option Road
road_of roads None = none
road_of roads (Some k) = some (roads k)

abbrev pub label_as : (ℕ → Road) → Label → astar.Label
label_as roads l = record { real = l.real; penalised = l.penalised; came_from = road_of roads l.came_from }

-- the mark that it leaves
abbrev pub mark_of : Maybe ℕ → ℕ
mark_of came = unwrap_or came start_mark

-- it came by one of e roads, whose numbers are no marks, or it is the start's
abbrev pub CameByRoad : ℕ → Maybe ℕ → Type 0
CameByRoad e None = Unit {0}
CameByRoad e (Some k) = (k < e) × (e ≤ most_roads)

-- ---- entries

abbrev pub heap_entry : List Float → List Float → List ℕ → ℕ → astar.Entry
heap_entry key cost node k = record { f_score = get_or key k nan; g_score = get_or cost k nan; node = get_or node k 0 }

unfoldable pub entries_of : List Float → List Float → List ℕ → ℕ → List astar.Entry
entries_of key cost node made = tabulate made 0 (heap_entry key cost node)

-- ---- the state

-- Of each node the real and the penalised cost of its label and the road it came by; of each entry its f-score, g-score and node; the heap, and how many entries were made.
pub record Columns : Type 0 where
  pub real : List Float
  pub penalised : List Float
  pub came : List ℕ
  pub f_score : List Float
  pub g_score : List Float
  pub node : List ℕ
  pub heap : List ℕ
  pub made : ℕ

abbrev pub columns : SearchAreas → Columns
columns a = record {
  real = a.real.now;
  penalised = a.penalised.now;
  came = a.came_from.now;
  f_score = a.f_score.now;
  g_score = a.g_score.now;
  node = a.node.now;
  heap = a.heap.items;
  made = a.made;
}

abbrev pub state_of : (ℕ → Road) → ℕ → Columns → State
state_of roads n a = record {
  labels = labels_of roads n a.real a.penalised a.came;
  made = entries_of a.f_score a.g_score a.node a.made;
  heap = a.heap;
}

-- over a sheet
abbrev pub labels_at : Sheet → SearchAreas → List (Option astar.Label)
labels_at sheet a = labels_of (road_at (contents sheet)) sheet.counts.n a.real.now a.penalised.now a.came_from.now

abbrev pub state_at : Sheet → SearchAreas → State
state_at sheet a = state_of (road_at (contents sheet)) sheet.counts.n (columns a)

-- ---- what the areas' functions do

-- the penalised cost of a node's label, where it has one
abbrev pub cost_there : Columns → ℕ → Maybe Float
cost_there a v = cond (eqb (get_or a.came v 0) unreached) None (Some (get_or a.penalised v nan))

abbrev pub entry_in : Columns → ℕ → Entry
entry_in a k = record { f_score = get_or a.f_score k nan; g_score = get_or a.g_score k nan; node = get_or a.node k 0 }

-- node v has the label l, and there is one entry more
abbrev pub grown : Columns → ℕ → Label → Float → Columns
grown a v l f = record {
  real = set a.real v l.real;
  penalised = set a.penalised v l.penalised;
  came = set a.came v (mark_of l.came_from);
  f_score = set a.f_score a.made f;
  g_score = set a.g_score a.made l.penalised;
  node = set a.node a.made v;
  heap = push (key_in (set a.f_score a.made f)) a.heap a.made;
  made = a.made + 1;
}

-- The areas are those of the same sheet, and as large as before. It is of before and after, so no type holds it and contracts say it.
pub record SameRoom (a b : SearchAreas) : Type 0 where
  pub sheet : b.sheet ≡ a.sheet
  pub slots : b.slots ≡ a.slots

-- ---- what holds of the areas

-- There is room for n nodes and for `slots` entries.
pub record Sized (n slots : ℕ) (a : Columns) : Type 0 where
  pub real : n ≤ length a.real
  pub penalised : n ≤ length a.penalised
  pub came : n ≤ length a.came
  pub f_score : slots ≤ length a.f_score
  pub g_score : slots ≤ length a.g_score
  pub node : slots ≤ length a.node

-- a mark, or the number of one of e roads
abbrev pub MarkOrRoad : ℕ → ℕ → Type 0
MarkOrRoad e k = (k ≡ unreached) ⊎ (k ≡ start_mark) ⊎ (k < e)

abbrev pub Reached : Columns → ℕ → Type 0
Reached a v = get_or a.came v 0 ≢ unreached

-- The areas of a search over n nodes and e roads. Entries are in the heap by their numbers, and each stands at a node that is reached.
pub record Proper (n e slots : ℕ) (a : Columns) : Type 0 where
  pub sized : Sized n slots a
  pub fewer : length a.heap ≤ a.made
  pub room : a.made ≤ slots
  pub numbers : Below a.heap a.made
  pub nodes : (k : ℕ) → k < a.made → get_or a.node k 0 < n
  pub reached : (k : ℕ) → k < a.made → Reached a (get_or a.node k 0)
  pub marks : (v : ℕ) → v < n → MarkOrRoad e (get_or a.came v 0)

-- From the areas a to the areas b: as many entries went into the heap as were made, and what was reached is reached.
pub record AreasKept (n e slots : ℕ) (a b : Columns) : Type 0 where
  pub proper : Proper n e slots b
  pub gone : b.made + length a.heap ≡ length b.heap + a.made
  pub reached : (v : ℕ) → Reached a v → Reached b v

-- the areas of a search over its sheet
abbrev pub Ready : Search → SearchAreas → Type 0
Ready s a = (a.sheet ≡ s.sheet) × Proper s.sheet.counts.n s.sheet.counts.e a.slots (columns a)

-- from the areas a to the areas b
abbrev pub Kept : Search → SearchAreas → SearchAreas → Type 0
Kept s a b = AreasKept s.sheet.counts.n s.sheet.counts.e a.slots (columns a) (columns b)

-- node v is reached: of an entry's node and the areas, so contracts say it
abbrev pub Labelled : SearchAreas → ℕ → Type 0
Labelled a v = (v < a.sheet.counts.n) × Reached (columns a) v

-- ---- what else is lent, with room

-- for the coverages and the roads of all legs
abbrev pub ListRoom : Counts → List ℕ → List Float → List ℕ → Type 0
ListRoom c covered coverage ids = (most_entries c.p c.n ≤ length covered) × (most_entries c.p c.n ≤ length coverage) × (most_entries c.p c.n ≤ length ids)

-- ---- the walk back

-- from node v there are at most k roads back; what is no number of one of e roads is a mark
abbrev pub EndsWithin : (ℕ → Road) → ℕ → List ℕ → ℕ → ℕ → Type 0
EndsWithin roads e came zero v = e ≤ get_or came v 0
EndsWithin roads e came (suc k) v = get_or came v 0 < e → EndsWithin roads e came k (roads (get_or came v 0)).source

-- The goal is reached, and there are fewer roads back from it than nodes.
pub record Back (n e : ℕ) (roads : ℕ → Road) (came : List ℕ) (goal : ℕ) : Type 0 where
  pub size : n ≤ length came
  pub marks : (v : ℕ) → v < n → MarkOrRoad e (get_or came v 0)
  pub reached : get_or came goal 0 ≢ unreached
  pub ends : EndsWithin roads e came (n - 1) goal

-- the last k roads back from node v, in travel order
unfoldable pub back_way : (ℕ → Road) → List ℕ → ℕ → ℕ → List ℕ
back_way roads came zero v = []
back_way roads came (suc k) v = back_way roads came k (roads (get_or came v 0)).source ++ get_or came v 0 ∷ []

-- there are that many: each mark is the number of one of e roads
unfoldable pub LeadsBack : (ℕ → Road) → ℕ → List ℕ → ℕ → ℕ → Type 0
LeadsBack roads e came zero v = Unit {0}
LeadsBack roads e came (suc k) v = (get_or came v 0 < e) × LeadsBack roads e came k (roads (get_or came v 0)).source

-- a fact with one proof, so that a `Trace` may hold it
pub LeadsBack-prop : (roads : ℕ → Road) (e : ℕ) (came : List ℕ) (k v : ℕ) → IsProp (LeadsBack roads e came k v)
unfolding LeadsBack
LeadsBack-prop roads e came zero v = Unit-prop
LeadsBack-prop roads e came (suc k) v = ×_prop le_prop (LeadsBack-prop roads e came k (roads (get_or came v 0)).source)
