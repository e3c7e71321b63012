use mathlib.Core.Path.{ap, ◌∙◌}
use Rattle.search.specs.Answers.{told}
use Rattle.search.proofs.Whole.{whole, arrives}
use Rattle.search.proofs.bounded_astar.Goals as goal

pub end_of_search-requires-clause-reached : goal.end_of_search-requires-clause-reached
end_of_search-requires-clause-reached c = λ found.
    let made = c.new-search.ensures in
    let nodes = rw (← made.0, ← made.1) at c.requires.nodes in
    let amounts = rw (← made.1) at c.requires.amounts in
    let search = c.search_from_start-arrived in
    let ready = rw found at search.ensures.stands in
    let there = search.ensures.arrived found in
    arrives c.new-search.result.sheet c.new-search.result.query _ nodes.0 nodes.1 c.args.areas.now.room.0 amounts.0 amounts.1 _ search.new.areas search.ensures.found found ready.1 there.1

pub returns-clause-found : goal.returns-clause-found
returns-clause-found c =
    let made = c.new-search.ensures in
    let nodes = rw (← made.0, ← made.1) at c.requires.nodes in
    let amounts = rw (← made.1) at c.requires.amounts in
    let is = whole c.new-search.result.sheet c.new-search.result.query _ nodes.0 nodes.1 c.args.areas.now.room.0 amounts.0 amounts.1 _ c.search_from_start-arrived.new.areas c.search_from_start-arrived.ensures.found in
    rw (← made.0, ← made.1) (c.end_of_search.ensures.found ∙ ap told is)

pub returns-clause-traced : goal.returns-clause-traced
returns-clause-traced c =
    let made = c.new-search.ensures in
    let nodes = rw (← made.0, ← made.1) at c.requires.nodes in
    let amounts = rw (← made.1) at c.requires.amounts in
    let is = whole c.new-search.result.sheet c.new-search.result.query _ nodes.0 nodes.1 c.args.areas.now.room.0 amounts.0 amounts.1 _ c.search_from_start-arrived.new.areas c.search_from_start-arrived.ensures.found in
    rw (← made.0, ← made.1, ← is) c.end_of_search.ensures.traced
