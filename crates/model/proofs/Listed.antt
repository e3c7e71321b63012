-- On a sheet whose lists are good the parts lie one behind the other, and each road stands in its source's part once.
use Prim.Native.Nat.{ℕ, zero, suc, ◌+◌, ◌-◌, ◌≤◌, ◌<◌}
use mathlib.Core.Path.{◌≡◌, sym, ◌∙◌}
use mathlib.Core.Bool.{Bool, true, false, not}
use mathlib.Core.List.{List}
use native.Mathlib.Nat.{not-suc-le-zero, le_of_suc-le-suc, zero-add, add-zero}
use native.Mathlib.Omega.{arith}
use lib.Dec.{leb, ltb}
use borrow.Author.Tests.{not-true, leb-true, ltb-true, eqb-true}
use Rattle.model.specs.declared.Counts.{Counts}
use Rattle.model.specs.Table.{every, met}
use Rattle.model.specs.Judge.{source_of, start_of, entry_of, start_rises, in_part, entry_good, lists_good, Sound}
use Rattle.model.proofs.Judging.{and_left, and_right, all_of_at}
use Rattle.model.proofs.Fields.{source_below, entry_below}
use Rattle.model.proofs.Once.{met_yes, met_place, all_met}

-- each test of a row that is good
pub every_at : (t : ℕ → Bool) (k j : ℕ) → every t k j ≡ true → (i : ℕ) → i < k → t (j + i) ≡ true
unfolding every
every_at t zero j e i h = absurd (not-suc-le-zero h)
every_at t (suc k) j e zero h = rw add-zero (and_left (t j) _ e)
every_at t (suc k) j e (suc i) h =
    let there : j + 1 + i ≡ j + suc i = omega arith in
    rw there at (every_at t k (j + 1) (and_right (t j) _ e) i (le_of_suc-le-suc h))

-- Where road r stands in the lists: at one place, in its source's part.
pub record Listed (s : List ℕ) (c : Counts) (r : ℕ) : Type 0 where
  pub place : ℕ
  pub below : place < c.e
  pub is : entry_of s c place ≡ r
  pub inside : in_part s c (source_of s c r) place ≡ true
  pub once : (j : ℕ) → j < c.e → entry_of s c j ≡ r → j ≡ place

module _ (s : List ℕ) (c : Counts) (ok : Sound s c) (good : lists_good s c ≡ true) where
  -- ---- the parts lie one behind the other, and end at E

  start_step : (i : ℕ) → i < c.n → start_of s c i ≤ start_of s c (i + 1)
  unfolding lists_good
  start_step i h = leb-true _ _ (rw zero-add at (every_at (start_rises s c) c.n 0 (all_of_at _ good 2) i h))

  start_add : (i d : ℕ) → i + d ≤ c.n → start_of s c i ≤ start_of s c (i + d)
  start_add i zero h = rw add-zero (omega arith)
  start_add i (suc d) h =
      let there : i + suc d ≡ i + d + 1 = omega arith in
      rw there (omega (arith, start_add i d (omega arith), start_step (i + d) (omega arith)))

  pub start_le : (i k : ℕ) → i ≤ k → k ≤ c.n → start_of s c i ≤ start_of s c k
  start_le i k h l =
      let there : i + (k - i) ≡ k = omega arith in
      rw there at (start_add i (k - i) (omega arith))

  pub start_last : start_of s c c.n ≡ c.e
  unfolding lists_good
  start_last = eqb-true _ _ (all_of_at _ good 1)

  -- each start is at most E
  pub start_most : (i : ℕ) → i ≤ c.n → start_of s c i ≤ c.e
  start_most i h = omega (arith, start_le i c.n h (omega arith), start_last)

  -- ---- the road at a place

  place_good : (j : ℕ) → j < c.e → entry_good s c j ≡ true
  unfolding lists_good
  place_good j h = rw zero-add at (every_at (entry_good s c) c.e 0 (all_of_at _ good 3) j h)

  -- it stands in its source's part
  pub entry_inside : (j : ℕ) → j < c.e → in_part s c (source_of s c (entry_of s c j)) j ≡ true
  entry_inside j h = and_left (in_part s c (source_of s c (entry_of s c j)) j) (not (met (entry_of s c) (entry_of s c j) j)) (place_good j h)

  -- and at no place before
  pub entry_fresh : (j : ℕ) → j < c.e → met (entry_of s c) (entry_of s c j) j ≡ false
  entry_fresh j h = not-true _ (and_right (in_part s c (source_of s c (entry_of s c j)) j) (not (met (entry_of s c) (entry_of s c j) j)) (place_good j h))

  apart : (j k : ℕ) → k < c.e → entry_of s c j ≡ entry_of s c k → j < k → ⊥
  apart j k h e l =
      let seen : met (entry_of s c) (entry_of s c k) k ≡ true = rw e at (met_yes (entry_of s c) j k l) in
      let unseen : met (entry_of s c) (entry_of s c k) k ≡ false = entry_fresh k h in
      let z : ◌≡◌ {A = ℕ} 0 1 = cc in
      omega arith

  -- ---- each road stands at one place

  pub listed : (r : ℕ) → r < c.e → Listed s c r
  listed r h =
      let p = met_place (entry_of s c) r c.e (all_met (entry_of s c) c.e (entry_below s c ok) entry_fresh r h) in
      record {
        place = p.place;
        below = p.below;
        is = p.is;
        inside = rw p.is at (entry_inside p.place p.below);
        once = λ j hj e.
            let before : j < p.place → ⊥ = apart j p.place p.below (e ∙ sym p.is) in
            let after : p.place < j → ⊥ = apart p.place j hj (p.is ∙ sym e) in
            omega arith;
      }

  -- the roads of node i's part have the source i
  pub part_source : (i j : ℕ) → i < c.n → start_of s c i ≤ j → j < start_of s c (i + 1) → source_of s c (entry_of s c j) ≡ i
  part_source i j h from to =
      let under : j < c.e = omega (arith, start_most (i + 1) (omega arith)) in
      let k : ℕ = source_of s c (entry_of s c j) in
      let kn : k < c.n = source_below s c ok (entry_of s c j) (entry_below s c ok j under) in
      let at_least : start_of s c k ≤ j = leb-true _ _ (and_left (leb (start_of s c k) j) (ltb j (start_of s c (k + 1))) (entry_inside j under)) in
      let at_most : j < start_of s c (k + 1) = ltb-true _ _ (and_right (leb (start_of s c k) j) (ltb j (start_of s c (k + 1))) (entry_inside j under)) in
      let not_before : k < i → ⊥ = λ l. let z = start_le (k + 1) i (omega arith) (omega arith) in omega arith in
      let not_after : i < k → ⊥ = λ l. let z = start_le (i + 1) k (omega arith) (omega arith) in omega arith in
      omega arith
