use Rattle.model.specs.Legs.{try_pair, after_pair, middle_of}
use Rattle.legs.specs.Found.{search_of}
use Rattle.legs.proofs.Leg.try_pair.Goals as goal

pub returns-in-Skip-clause-means : goal.returns-in-Skip-clause-means
unfolding try_pair after_pair
returns-in-Skip-clause-means c = let a = c.args in
    let plan = c.in-Skip.ensures.means (search_of a.self.now a.areas.now) in
    rw (← c.new-pair.ensures.stands, ← plan)

pub returns-in-Search-clause-means : goal.returns-in-Search-clause-means
unfolding try_pair after_pair middle_of
returns-in-Search-clause-means c = let a = c.args in
    let search = search_of a.self.now a.areas.now in
    let plan = c.in-Search.ensures.means search in
    rw (← c.new-pair.ensures.stands, ← plan) (c.after_search.ensures.means search c.middle-found.ensures.means)
