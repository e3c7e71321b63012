-- What the code's records stand for. The roads between the terminal ones of a path are what its search finds.
use Rattle.std.specs.Prelude.{◌≡◌, ◌<◌, ℕ, length, get_or, Option, Some, None, List, [], ◌∷◌, ◌++◌, map, Bool, false}
use Rattle.std.proofs.Math.Option as definition
use Rattle.model.specs.declared.Counts.{Counts}
use Rattle.model.specs.declared.Road.{Road}
use Rattle.model.specs.Numbers.{◌<ᶠ◌}
use Rattle.model.specs.Search.{none_found}
use Rattle.model.specs.Legs as legs
use Rattle.model.specs.Legs.{EdgeCoverage, MiddleSearch, pair, whole, best_score}
use Rattle.model.specs.Candidates.{Candidate}
use Rattle.candidates.specs.declared.candidate.Candidate as code
use Rattle.candidates.specs.Found.{on, no_item}
use Rattle.search.specs.Answers.{roads_in}
use Rattle.rules.specs.declared.Placed.{Placed}
use Rattle.rules.specs.declared.Pair.{Pair}
use Rattle.rules.specs.declared.TerminalEdge.{TerminalEdge}
use Rattle.rules.specs.declared.Middle.{Middle}
use Rattle.rules.specs.declared.PathResult.{PathResult}
use Rattle.rules.specs.declared.Scored.{Scored}

abbrev pub placed : Placed → Candidate
placed x = on x.road x.candidate

abbrev pub pair_of : Pair → legs.Pair
pair_of p = pair (placed p.start) (placed p.end)

-- a way between its roads leads from one of the nodes to one of them; no ghost field of a pair, which has no sheet
abbrev pub Within : ℕ → Pair → Type 0
Within nodes p = (p.start.road.target < nodes) × (p.end.road.source < nodes)

-- a terminal road that is kept
abbrev pub terminal_of : Option TerminalEdge → List EdgeCoverage
terminal_of None = []
terminal_of (Some x) = record { road = x.road; coverage_m = x.coverage_m } ∷ []

-- the path over these roads between its terminal ones
abbrev pub with_middle : PathResult → List Road → legs.PathResult
with_middle r middle = record {
  coverages = terminal_of r.head ++ map whole middle ++ terminal_of r.tail;
  total_length = r.total_length;
  start_offset_m = r.start_offset_m;
  end_offset_m = r.end_offset_m;
}

-- its roads between: those of its search, once more
unfoldable pub middle_in : MiddleSearch → Option Middle → List Road
middle_in search None = []
middle_in search (Some m) = roads_in (search m.start m.goal m.bound)

abbrev pub no_search : MiddleSearch
no_search start goal bound = none_found

abbrev pub scored_of : MiddleSearch → Scored → legs.Scored
scored_of search s = record { path = with_middle s.path (middle_in search s.path.middle); score = s.score }

abbrev pub best_of : MiddleSearch → Option Scored → definition.Option legs.Scored
best_of search None = definition.none
best_of search (Some s) = definition.some (scored_of search s)

-- the path of b has a lower score than the one to beat
abbrev pub beats : Option Scored → Option Scored → Bool
beats None best = false
beats (Some s) best = s.score <ᶠ best_score (best_of no_search best)

-- b stands for s, whatever a search finds
abbrev pub BestIs : Option Scored → definition.Option legs.Scored → Type 0
BestIs b s = (search : MiddleSearch) → best_of search b ≡ s

-- candidates on roads with numbers
abbrev pub Named : Counts → List code.Candidate → Type 0
Named c xs = (k : ℕ) → k < length xs → (get_or xs k no_item).edge_idx < c.e
