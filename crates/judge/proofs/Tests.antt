-- A row of tests, by what is found of each.
use Rattle.std.proofs.Common.{◌≡◌, ℕ, zero, suc, ◌+◌, ◌-◌, ◌<◌, Bool, true, false, ◌&&◌, List, refl, sym, ap, ◌∙◌, arith, add-zero, add-one}
use Rattle.model.specs.declared.Counts.{Counts}
use Rattle.model.specs.Table.{every}
use Rattle.model.specs.Judge.{row_count, rows_before, has_goal}
use Rattle.model.proofs.RowSums.{before_none}
use Rattle.judge.specs.Rows.{goals_cover}

and_assoc : (a b c : Bool) → (a && (b && c)) ≡ ((a && b) && c)
and_assoc true b c = refl
and_assoc false b c = refl

module _ (t : ℕ → Bool) where
  pub every_true : (k j : ℕ) → ((i : ℕ) → i < k → t (j + i) ≡ true) → true ≡ every t k j
  unfolding every
  every_true zero j h = refl
  every_true (suc k) j h =
      let first : t j ≡ true = rw add-zero at (h 0 (omega arith)) in
      rw first (every_true k (j + 1) (λ i l. let there : j + 1 + i ≡ j + suc i = omega arith in rw there (h (suc i) (omega arith))))

  pub every_false : (k j i : ℕ) → i < k → t (j + i) ≡ false → false ≡ every t k j
  unfolding every
  every_false zero j i l e = elim l [ ]
  every_false (suc k) j zero l e =
      let first : t j ≡ false = rw add-zero at e in
      rw first
  every_false (suc k) j (suc i) l e =
      let there : j + 1 + i ≡ j + suc i = omega arith in
      rw (← every_false k (j + 1) i (omega arith) (rw there e)) (grind arith)

  pub every_none : (j : ℕ) → every t 0 j ≡ true
  unfolding every
  every_none j = refl

  pub every_more : (k j : ℕ) → every t (k + 1) j ≡ (every t k j && t (j + k))
  unfolding every
  every_more k j = rw add-one (go k j)
    where
      go : (k j : ℕ) → every t (suc k) j ≡ (every t k j && t (j + k))
      go zero j = rw add-zero (grind arith)
      go (suc k) j = let there : j + 1 + k ≡ j + suc k = omega arith in rw (go k (j + 1), there, and_assoc)

-- a sheet without points has no rows
pub no_rows : (s : List ℕ) (c : Counts) → c.p ≡ 0 → rows_before s c.p ≡ c.m → goals_cover s c ≡ true
no_rows s c p m =
    let none : c.m ≡ 0 = sym m ∙ ap (rows_before s) p ∙ before_none s in
    let less : c.m - row_count s 0 ≡ 0 = omega arith in
    rw less (every_none (has_goal s c) (row_count s 0))
