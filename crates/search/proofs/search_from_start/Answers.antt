use mathlib.Core.Path.{sym, ap, ◌∙◌}
use Rattle.model.specs.Sheet.{road_at}
use Rattle.model.specs.Search.{run, search_within}
use Rattle.sheet.specs.Contents.{contents}
use Rattle.search.specs.Query.{query_at}
use Rattle.search.specs.Areas.{columns}
use Rattle.search.proofs.Growth.{same_nodes, begun_alone}
use Rattle.search.proofs.Whole.{query_nodes}
use Rattle.search.proofs.search_from_start.Goals as goal

pub run_search-requires : goal.run_search-requires
run_search-requires c =
    let s = c.args.search.now in
    let after = c.begin.ensures in
    let begun = after.state (road_at (contents s.sheet)) (query_at s) (query_nodes s.sheet s.query ∙ sym (same_nodes c.requires.1)) (sym c.heuristic-far.ensures) in
    ((after.same_room.sheet ∙ c.requires.1, rw (after.same_room.slots, ← c.requires.1) (after.proper _)), begun_alone _ _ (columns c.begin.new.self) _ _ begun)

pub returns-clause-found : goal.returns-clause-found
unfolding search_within
returns-clause-found c = λ steps.
    let s = c.args.search.now in
    let after = c.begin.ensures in
    let begun = after.state (road_at (contents s.sheet)) (query_at s) (query_nodes s.sheet s.query ∙ sym (same_nodes c.requires.1)) (sym c.heuristic-far.ensures) in
    rw after.same_room.slots at (c.run_search.ensures.found steps) ∙ ap (run steps c.args.areas.now.slots c.args.areas.now.slots (query_at s)) (rw c.requires.1 at begun)
