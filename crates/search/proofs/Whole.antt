-- A whole search: where the goal was found the walk back ends, since more steps than nodes - 1 change nothing in the definition, and so the answer is the definition's.
use Prim.Native.Nat.{ℕ, suc, ◌-◌, ◌≤◌, ◌<◌}
use mathlib.Core.Path.{◌≡◌, sym, ◌∙◌}
use mathlib.Core.Bool.{Bool, true}
use mathlib.Core.List.{[]}
use native.Mathlib.Nat.{le_refl}
use native.Mathlib.Omega.{arith}
use Rattle.std.specs.Prelude.{Result, Ok}
use Rattle.model.specs.Sheet.{road_at}
use Rattle.model.specs.Search.{search_within, bounded_astar}
use Rattle.model.specs.Search as astar
use Rattle.model.proofs.Parsed.{node_count}
use Rattle.bounds.specs.Amounts.{Amount}
use Rattle.bounds.proofs.SearchBound.{search_theorem}
use Rattle.sheet.specs.declared.Sheet.{Sheet}
use Rattle.sheet.specs.Contents.{contents}
use Rattle.search.specs.declared.HeapFull.{HeapFull}
use Rattle.search.specs.declared.Query.{Query}
use Rattle.search.specs.declared.areas.SearchAreas.{SearchAreas}
use Rattle.search.specs.Query.{query_on}
use Rattle.search.specs.Areas.{columns, labels_at, Reached, Proper, Back}
use Rattle.search.specs.Answers.{arrived, end_of_search}
use Rattle.search.proofs.Roads.{roads_few, source_within, query_ways}
use Rattle.search.proofs.Walks.{ends_there}

pub query_nodes : (sheet : Sheet) (query : Query) → (query_on (contents sheet) query).nodes ≡ sheet.counts.n
unfolding query_on
query_nodes sheet query = node_count sheet.bytes.now sheet.counts

module _ (sheet : Sheet) (query : Query) (slots : ℕ) (start : query.start < sheet.counts.n) (goal : query.goal < sheet.counts.n) (one : 0 < slots) (slip : Amount query.constraints.slip_road_cost_penalty) (access : Amount query.constraints.access_road_cost_penalty) where
  abbrev n : ℕ
  n = sheet.counts.n

  abbrev q : astar.Query
  q = query_on (contents sheet) query

  -- any number of steps from nodes - 1 on
  enough : (steps : ℕ) → n - 1 ≤ steps → search_within steps slots slots q query.start ≡ bounded_astar slots q query.start
  enough steps h =
      let nodes = query_nodes sheet query in
      (search_theorem q query.start slots (query_ways sheet.bytes.now sheet.counts sheet.well_formed query slip access) (rw nodes start) one).enough steps slots (rw nodes h) (le_refl slots)

  module _ (r : Result Bool HeapFull) (a : SearchAreas) (is : (steps : ℕ) → end_of_search steps q r (labels_at sheet a) ≡ search_within steps slots slots q query.start) where
    pub whole : end_of_search (n - 1) q r (labels_at sheet a) ≡ bounded_astar slots q query.start
    whole = is (n - 1) ∙ enough (n - 1) (le_refl (n - 1))

    pub arrives : r ≡ Ok true → {room : ℕ} → Proper n sheet.counts.e room (columns a) → Reached (columns a) query.goal → Back n sheet.counts.e (road_at (contents sheet)) a.came_from.now query.goal
    unfolding query_on
    arrives found ok reached =
        let found_within = rw found at is in
        let same : arrived (suc (n - 1)) q (labels_at sheet a) ≡ arrived (n - 1) q (labels_at sheet a) =
        found_within (suc (n - 1)) ∙ enough (suc (n - 1)) (omega arith) ∙ sym (enough (n - 1) (le_refl (n - 1))) ∙ sym (found_within (n - 1)) in
        record {
          size = ok.sized.came;
          marks = ok.marks;
          reached = reached;
          ends = ends_there n sheet.counts.e (road_at (contents sheet)) a.came_from.now (roads_few _ _ sheet.well_formed) ok.marks (source_within _ _ sheet.well_formed) a.real.now a.penalised.now (n - 1) query.goal [] goal (cc same);
        }
