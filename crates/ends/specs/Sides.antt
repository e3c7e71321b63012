-- The two ends of a path: where a walk sets out, what is near, and where its roads go.
use Rattle.std.specs.Prelude.{ℕ, ◌-◌, Bool, cond, List, ◌++◌, reverse, get_or, length, take, drop, Float}
use Rattle.model.specs.Sheet.{Sheet}
use Rattle.model.specs.Ends.{PathEnd, at_end, at_start}

-- the last road of a path, or its first
abbrev pub terminal : Bool → List ℕ → ℕ
terminal forward path = cond forward (get_or path (length path - 1) 0) (get_or path 0 0)

-- the distances from the point there
abbrev pub distances : Sheet → Bool → List Float
distances t forward = cond forward t.from_last t.from_first

-- the roads behind the first n, where they belong
abbrev pub placed : Bool → ℕ → List ℕ → List ℕ
placed forward n ids = cond forward ids (reverse (drop n ids) ++ take n ids)

-- the walk there
abbrev pub walked : Bool → Sheet → Float → PathEnd → PathEnd
walked forward t cap e = cond forward (at_end t cap e) (at_start t cap e)
