-- The goal row of a node.
use Rattle.std.specs.Prelude.{ℕ, ◌<◌, ◌≡◌, [], get_or, Option, Some, None}
use Rattle.model.specs.declared.Counts.{Counts}
use Rattle.model.specs.Sheet.{Goal, Sheet}
use Rattle.model.specs.View.{distances_to}

abbrev pub no_goal : Goal
no_goal = record { node = 0; distances = [] }

abbrev pub goal_at : Sheet → ℕ → Goal
goal_at t k = get_or t.goals k no_goal

-- the distances to node v are those of goal row k, or there are none
abbrev pub GoalOf : Sheet → Counts → ℕ → Option ℕ → Type 0
GoalOf t c v (Some k) = (k < c.g) × ((goal_at t k).distances ≡ distances_to t.goals v)
GoalOf t c v None = distances_to t.goals v ≡ []
