-- The pairs of a leg that are left when some were taken from the front of each start's row.
use Rattle.std.specs.Prelude.{◌≡◌, true, false, List, [], ◌∷◌, ◌++◌, map, ℕ, ◌<◌, ◌≤◌, length, get_or, drop, T, Float, Option, Some, None}
use Rattle.std.specs.Float.{nan}
use Rattle.std.specs.Float.Ieee.{le}
use Rattle.model.specs.Numbers.{◌⊕◌, ◌<ᶠ◌}
use Rattle.model.specs.Candidates.{Candidate}
use Rattle.model.specs.Lists.{sort}
use Rattle.model.specs.Legs.{Pair, pair, by_sum}
use Rattle.bounds.specs.Amounts.{Amount}
use Rattle.candidates.specs.Found.{no_candidate}
use Rattle.pairs.specs.declared.Next.{Next}

-- of each start the ends from its head on
unfoldable pub left : List Candidate → List Candidate → List ℕ → List Pair
left [] ys heads = []
left (x ∷ xs) ys [] = []
left (x ∷ xs) ys (h ∷ heads) = map (pair x) (drop h ys) ++ left xs ys heads

abbrev pub score_at : List Float → ℕ → Float
score_at scores k = get_or scores k nan

-- scores are amounts and never fall
pub record ScoresRise (scores : List Float) : Type 0 where
  pub amounts : (k : ℕ) → k < length scores → Amount (score_at scores k)
  pub rise : (j k : ℕ) → j < k → k < length scores → T (le (score_at scores j) (score_at scores k))

abbrev pub scores_of : List Candidate → List Float
scores_of xs = map (λ (x : Candidate). x.score) xs

-- candidates of the definition with the scores of the starts and of the ends, in order
pub record ScoresOf (starts ends : List Float) (xs ys : List Candidate) : Type 0 where
  pub starts_are : starts ≡ scores_of xs
  pub ends_are : ends ≡ scores_of ys
  pub starts_rise : ScoresRise starts
  pub ends_rise : ScoresRise ends

-- a start and the end at its head, summed
unfoldable pub head_sum : List Float → List Float → List ℕ → ℕ → Float
head_sum starts ends heads i = score_at starts i ⊕ score_at ends (get_or heads i 0)

-- start i has an end left
abbrev pub Open : List Float → List ℕ → ℕ → Type 0
Open ends heads i = get_or heads i 0 < length ends

-- the head sums of the open starts below i are amounts
abbrev pub HeadAmounts : List Float → List Float → List ℕ → ℕ → Type 0
HeadAmounts starts ends heads i = (k : ℕ) → k < i → Open ends heads k → Amount (head_sum starts ends heads k)

-- `best` is the first open start below i with the least sum
pub record Least (starts ends : List Float) (heads : List ℕ) (i best : ℕ) : Type 0 where
  pub below : best < i
  pub some_end : Open ends heads best
  pub before : HeadAmounts starts ends heads i → (k : ℕ) → k < best → Open ends heads k → head_sum starts ends heads best <ᶠ head_sum starts ends heads k ≡ true
  pub behind : HeadAmounts starts ends heads i → (k : ℕ) → k < i → Open ends heads k → head_sum starts ends heads k <ᶠ head_sum starts ends heads best ≡ false

-- that start and its sum, or none of those below i has an end left
abbrev pub LeastOf : List Float → List Float → List ℕ → ℕ → Option (ℕ × Float) → Type 0
LeastOf starts ends heads i None = (k : ℕ) → k < i → length ends ≤ get_or heads k 0
LeastOf starts ends heads i (Some best) = (best.1 ≡ head_sum starts ends heads best.0) × Least starts ends heads i best.0

-- the pair is the first in the order of the sums, and the heads are then those of the others; or none is left
abbrev pub NextOf : List Float → List Float → List ℕ → List ℕ → Option Next → Type 0
NextOf starts ends old new None = (xs ys : List Candidate) → starts ≡ scores_of xs → ends ≡ scores_of ys → left xs ys old ≡ []
NextOf starts ends old new (Some p) = (xs ys : List Candidate) → ScoresOf starts ends xs ys
    → sort by_sum (left xs ys old) ≡ pair (get_or xs p.start no_candidate) (get_or ys p.end no_candidate) ∷ sort by_sum (left xs ys new)
