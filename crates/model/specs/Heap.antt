-- Rust's BinaryHeap, on a list of entry numbers. `key` gives the key of an entry, and a lower key is greater.
-- A hole is a place of the list whose content does not count: the entry e goes there, or further on.
use Rattle.std.specs.Prelude.{ℕ, zero, suc, ◌+◌, ◌-◌, ◌*◌, ◌/◌, cond, List, [], ◌∷◌, ◌++◌, ltb, eqb, length, get_or, set, take, Float}
use Rattle.model.specs.Numbers.{◌≤ᶠ◌}

-- From the hole at i the entry e sifts up while it is greater than the parent. The first argument bounds the steps; i is enough.
unfoldable pub sift_up : ℕ → (ℕ → Float) → ℕ → List ℕ → ℕ → List ℕ
sift_up zero key e h i = set h i e
sift_up (suc k) key e h i =
    let p = (i - 1) / 2 in
    cond (eqb i 0) (set h i e)
    (cond (key (get_or h p 0) ≤ᶠ key e) (set h i e)
    (sift_up k key e (set h i (get_or h p 0)) p))

-- the place of the greater of the children at `left` and left + 1: the right one if equal
unfoldable pub child : (ℕ → Float) → List ℕ → ℕ → ℕ
child key h left = cond (key (get_or h (left + 1) 0) ≤ᶠ key (get_or h left 0)) (left + 1) left

-- From the hole at i among the first `end` places, the greater child moves up until the hole is at the bottom; then e sifts up from there.
-- The first argument bounds the steps; `end` is enough.
unfoldable pub sink : ℕ → (ℕ → Float) → ℕ → ℕ → List ℕ → ℕ → List ℕ
sink zero key e end h i = sift_up i key e h i
sink (suc k) key e end h i =
    let left = 2 * i + 1 in
    let c = child key h left in
    cond (ltb (left + 1) end) (sink k key e end (set h i (get_or h c 0)) c)
    (cond (eqb (left + 1) end) (sift_up left key e (set h i (get_or h left 0)) left)
    (sift_up i key e h i))

-- one entry more
abbrev pub push : (ℕ → Float) → List ℕ → ℕ → List ℕ
push key h e = sift_up (length h) key e (h ++ e ∷ []) (length h)

-- without the greatest entry, which stands first: the last one goes to the root and sinks
unfoldable pub pop : (ℕ → Float) → List ℕ → List ℕ
pop key h = let n = length h - 1 in sink n key (get_or h n 0) n (take n h) 0
