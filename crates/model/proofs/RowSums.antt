-- The rows of the points before one: how they add up, and that the rows of a point are rows of the sheet.
use Prim.Native.Nat.{ℕ, zero, suc, ◌+◌, ◌-◌, ◌≤◌, ◌<◌}
use mathlib.Core.Path.{◌≡◌, refl}
use mathlib.Core.Bool.{true}
use mathlib.Core.List.{List}
use native.Mathlib.Nat.{add-zero}
use native.Mathlib.Numerals.{add-one}
use native.Mathlib.Omega.{arith}
use borrow.Author.Tests.{eqb-true}
use Rattle.model.specs.declared.Counts.{Counts}
use Rattle.model.specs.Judge.{row_count, rows_before, rows_good}
use Rattle.model.proofs.Judging.{all_of_at}

module _ (s : List ℕ) where
  pub before_none : rows_before s 0 ≡ 0
  unfolding rows_before
  before_none = refl

  pub before_next : (i : ℕ) → rows_before s (i + 1) ≡ rows_before s i + row_count s i
  unfolding rows_before
  before_next i = rw add-one

  before_add : (i d : ℕ) → rows_before s i ≤ rows_before s (i + d)
  before_add i zero = rw add-zero (omega arith)
  before_add i (suc d) =
      let there : i + suc d ≡ i + d + 1 = omega arith in
      rw (there, before_next) (omega (arith, before_add i d))

  pub before_le : (i j : ℕ) → i ≤ j → rows_before s i ≤ rows_before s j
  before_le i j h =
      let there : i + (j - i) ≡ j = omega arith in
      rw there at (before_add i (j - i))

-- where the rows are good, the counts add up to M
pub rows_total : (s : List ℕ) (c : Counts) → rows_good s c ≡ true → rows_before s c.p ≡ c.m
unfolding rows_good
rows_total s c e = eqb-true _ _ (all_of_at _ e 0)

-- and the rows of each point are rows of the sheet
pub rows_within : (s : List ℕ) (c : Counts) → rows_good s c ≡ true → (i : ℕ) → i < c.p → rows_before s i + row_count s i ≤ c.m
rows_within s c e i h = omega (arith, rows_total s c e, before_next s i, before_le s (i + 1) c.p (omega arith))
