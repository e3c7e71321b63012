-- Marks for the numbers that were met: set for each number below `size` that is among f 0, f 1, .., k of them, and for no other.
use Rattle.std.specs.Prelude.{◌≡◌, ℕ, ◌<◌, Bool, false, List, slice_index_or}
use Rattle.model.specs.Table.{met}

-- none of the first `size` marks is set
abbrev pub Clear : ℕ → List Bool → Type 0
Clear size marks = (v : ℕ) → v < size → slice_index_or marks v false ≡ false

abbrev pub Marks : (ℕ → ℕ) → ℕ → List Bool → ℕ → Type 0
Marks f size marks k = (v : ℕ) → v < size → slice_index_or marks v false ≡ met f v k
