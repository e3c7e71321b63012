use Rattle.std.proofs.Common.{sym, ap, ◌∙◌}
use Rattle.model.specs.Legs.{after_search, goes_on, improve}
use Rattle.rules.specs.Code.{best_of}
use Rattle.pair_plans.specs.Turns.{way_between}
use Rattle.pair_plans.proofs.Told.{told_found}
use Rattle.pair_plans.proofs.turns.after_search.Goals as goal

pub returns-in-Found-clause-means : goal.returns-in-Found-clause-means
unfolding after_search
returns-in-Found-clause-means c search e = let a = c.args in
    let w = told_found (way_between search a.pair.now a.bound) _ _ (sym c.in-Found.is ∙ e) in
    rw w.1 (ap goes_on (c.improve.ensures.better search ∙ ap (improve (best_of search a.best)) (c.scored_over-next.ensures.means search w.0 w.1)))
