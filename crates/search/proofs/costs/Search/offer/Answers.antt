use mathlib.Core.Path.{◌∙◌}
use Rattle.std.proofs.Common.{rules}
use Rattle.model.specs.Numbers.{◌⊕◌}
use Rattle.model.specs.Search.{label_at}
use Rattle.search.specs.Query.{query_on, query_at}
use Rattle.search.specs.Answers.{entry_as}
use Rattle.search.proofs.Labels.{stays_by, offer_long, offer_worse, offer_better}
use Rattle.search.proofs.costs.Search.offer.Goals as goal

pub returns-then-self-a-clause-offered : goal.returns-then-self-a-clause-offered
unfolding query_on
returns-then-self-a-clause-offered c = λ roads ls known real there.
    let a = c.args in
    offer_long (query_at a.self.now) (entry_as a.entry) ls a.r real c.if-self-a.true

pub returns-then-is_some_and-clause-offered : goal.returns-then-is_some_and-clause-offered
unfolding query_on
returns-then-is_some_and-clause-offered c = λ roads ls known real there.
    let a = c.args in
    let stays = stays_by (label_at ls a.r.target) (a.entry.g_score ⊕ a.r.length_m ⊕ c.penalty.result) there (λ e. rw e at c.is_some_and.ensures) (λ y e. let seen = rw e at c.is_some_and.ensures in search (seen, rules)) in
    offer_worse (query_at a.self.now) (entry_as a.entry) ls a.r real (rw c.penalty.ensures at (stays ∙ c.if-is_some_and.true))

pub returns-clause-offered : goal.returns-clause-offered
unfolding query_on
returns-clause-offered c = λ roads ls known real there.
    let a = c.args in
    let stays = stays_by (label_at ls a.r.target) (a.entry.g_score ⊕ a.r.length_m ⊕ c.penalty.result) there (λ e. rw e at c.is_some_and.ensures) (λ y e. let seen = rw e at c.is_some_and.ensures in search (seen, rules)) in
    rw c.penalty.ensures (offer_better (query_at a.self.now) (entry_as a.entry) ls a.r real c.if-self-a.false (rw c.penalty.ensures at (stays ∙ c.if-is_some_and.false)) known)
