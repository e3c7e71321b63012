-- What the checks of k records find.
use Rattle.std.specs.Prelude.{◌≡◌, ℕ, ◌+◌, ◌*◌, ◌<◌, List}
use Rattle.model.specs.Table.{Verdict, Field, check}

-- Each verdict that is given of a record, w bytes from the one before, is the table's.
abbrev pub Finds : List ℕ → List Field → ℕ → ℕ → ℕ → (ℕ → Verdict → Type 0) → Type 0
Finds s fs base w k gives = (i : ℕ) → i < k → (v : Verdict) → gives (base + i * w) v → v ≡ check s (base + i * w) fs
