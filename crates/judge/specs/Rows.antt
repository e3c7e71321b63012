-- What is asked of the rows, and what a closure gives of k numbers from one on.
use Rattle.std.specs.Prelude.{◌≡◌, ℕ, ◌+◌, ◌-◌, ◌<◌, ◌≤◌, Bool, List}
use Rattle.model.specs.declared.Counts.{Counts}
use Rattle.model.specs.Table.{every}
use Rattle.model.specs.Judge.{has_goal, row_count}

abbrev pub Gives : (ℕ → ℕ) → ℕ → ℕ → (ℕ → ℕ → Type 0) → Type 0
Gives f from k gives = (i : ℕ) → from ≤ i → i < from + k → (v : ℕ) → gives i v → v ≡ f i

-- the source of the road of each row after the first point's has a goal row
abbrev pub goals_cover : List ℕ → Counts → Bool
goals_cover s c = every (has_goal s c) (c.m - row_count s 0) (row_count s 0)
