use Rattle.std.proofs.lemmas.Result.{err_from_is_err_and}
use Rattle.model.specs.Legs.{next_pair, leg_end}
use Rattle.rules.specs.Code.{no_search}
use Rattle.legs.proofs.Ending.{by_pairs}
use Rattle.legs.proofs.Leg.find_best_path.Goals as goal

pub returns-in_err-best-clause-means : goal.returns-in_err-best-clause-means
unfolding next_pair
returns-in_err-best-clause-means c = let a = c.args in
    let full = err_from_is_err_and c.from_residual.result c.from_residual.ensures.1 in
    rw (full.1, full.2) (by_pairs a.self.now a.areas.now c.requires.ready (c.in_default.ensures no_search) c.in_err-best.ensures.means)

pub returns-clause-means : goal.returns-clause-means
unfolding next_pair leg_end
returns-clause-means c = let a = c.args in by_pairs a.self.now a.areas.now c.requires.ready (c.in_default.ensures no_search) (rw c.in-Some-2.is at c.in_ok-best.ensures.means)
