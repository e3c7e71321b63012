-- The heap's entries in slices: the keys of all entries in one, and in front of another the numbers of those in the heap.
use Rattle.std.specs.Prelude.{ℕ, ◌<◌, List, get_or, Float}
use Rattle.std.specs.Float.{nan}
use Rattle.model.specs.Lists.{In}

-- the key of entry k
abbrev pub key_in : List Float → ℕ → Float
key_in ks k = get_or ks k nan

-- each entry is below m
abbrev pub Below : List ℕ → ℕ → Type 0
Below items m = (k : ℕ) → In k items → k < m

-- each of the first n numbers of `order` is below m
abbrev pub FrontBelow : List ℕ → ℕ → ℕ → Type 0
FrontBelow order n m = (j : ℕ) → j < n → get_or order j 0 < m

-- A heap: its entries, and how many it has room for.
pub record HeapOf : Type 0 where
  pub items : List ℕ
  pub room : ℕ
