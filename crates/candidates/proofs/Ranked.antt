-- Tests of amounts by their ranks, and of candidates by their scores.
use Prim.Native.Nat.{ℕ, ◌*◌, ◌≤◌, ◌<◌}
use mathlib.Core.Path.{◌≡◌, refl, sym, ◌∙◌, subst}
use mathlib.Core.Bool.{Bool, true, false, not, ◌&&◌, ◌||◌}
use native.Mathlib.Omega.{arith}
use lib.Dec.{T, ltb, eqb}
use lib.Ieee.{Float, up, down, lt, eq, le}
use borrow.Author.Tests.{ltb-true, ltb-false, eqb-true, lt-ltb, le-ltb, eq-eqb, ne_eqb}
use Rattle.model.specs.Candidates.{Candidate, better}
use Rattle.bounds.specs.Amounts.{Amount}
use Rattle.bounds.proofs.Rank.{rank, Kind, endless, ended, to_kind, le_rank, rank_le, nlt_rank, lt_rank}

-- ---- amounts

yes : {b : Bool} → b ≡ true → T b
yes e = subst T (sym e) tt

is_not : {b : Bool} → b ≡ false → T (not b)
is_not e = subst (λ (b : Bool). T (not b)) (sym e) tt

or_right : (a b : Bool) → b ≡ true → T (a || b)
or_right true b e = tt
or_right false b e = yes e

from_left : (a b : Bool) → a ≡ false → T (a || b) → T b
from_left true b e t = absurd (subst T e tt)
from_left false b e t = t

-- equal amounts are not below each other
even : {x y : Float} → Kind x → Kind y → eq x y ≡ true → lt x y ≡ false
unfolding lt eq
even endless endless e = refl
even endless (ended t) e = refl
even (ended s) endless e = absurd (subst (λ (b : Bool). T (not b)) e tt)
even (ended {m} {e} s) (ended {m = n} {e = d} t) h =
    let a = m * up e * down d in
    let b = n * up d * down e in
    le-ltb a b (go (eqb a b) (eqb-true a b) h)
  where
    go : {a b : ℕ} (c : Bool) → (c ≡ true → a ≡ b) → (c && true) ≡ true → b ≤ a
    go true f h = let e = f refl in omega arith
    go false f h = absurd (subst (λ (b : Bool). T (not b)) h tt)

module _ (x y : Float) (p : Amount x) (q : Amount y) where
  pub lt_is : lt x y ≡ ltb (rank x) (rank y)
  lt_is = go (lt x y) refl
    where
      go : (b : Bool) → lt x y ≡ b → b ≡ ltb (rank x) (rank y)
      go true e = sym (lt-ltb _ _ (lt_rank x y p q (yes e)))
      go false e = sym (le-ltb _ _ (nlt_rank x y p q (is_not e)))

  pub eq_is : eq x y ≡ eqb (rank x) (rank y)
  unfolding le
  eq_is = go (eq x y) refl
    where
      equal : eq x y ≡ true → rank x ≡ rank y
      equal e =
          let a : rank x ≤ rank y = le_rank x y p q (or_right (lt x y) (eq x y) e) in
          let b : rank y ≤ rank x = nlt_rank x y p q (is_not (even (to_kind x p) (to_kind y q) e)) in
          omega arith

      unequal : eq x y ≡ false → rank x ≡ rank y → ⊥
      unequal e h =
          let n : lt x y ≡ false = lt_is ∙ le-ltb (rank x) (rank y) (omega arith) in
          subst T e (from_left (lt x y) (eq x y) n (rank_le x y p q (omega arith)))

      go : (b : Bool) → eq x y ≡ b → b ≡ eqb (rank x) (rank y)
      go true e = sym (eq-eqb _ _ (equal e))
      go false e = sym (ne_eqb _ _ (unequal e))

module _ (x y : Float) (p : Amount x) (q : Amount y) where
  pub below_rank : lt x y ≡ true → rank x < rank y
  below_rank e = ltb-true _ _ (sym (lt_is x y p q) ∙ e)

  pub not_below_rank : lt x y ≡ false → rank y ≤ rank x
  not_below_rank e = ltb-false _ _ (sym (lt_is x y p q) ∙ e)

  pub rank_below : rank x < rank y → lt x y ≡ true
  rank_below h = lt_is x y p q ∙ lt-ltb _ _ h

  pub rank_not_below : rank y ≤ rank x → lt x y ≡ false
  rank_not_below h = lt_is x y p q ∙ le-ltb _ _ h

-- ---- candidates

abbrev pub ScoreAmount : Candidate → Type 0
ScoreAmount x = Amount x.score

-- against a road of a smaller number the score alone decides
pub by_score : (a b : Candidate) → b.road.number ≤ a.road.number → better a b ≡ lt a.score b.score
unfolding better
by_score a b h = rw (le-ltb a.road.number b.road.number h) (go (lt a.score b.score) (eq a.score b.score))
  where
    go : (p q : Bool) → (p || (q && false)) ≡ p
    go true q = refl
    go false true = refl
    go false false = refl
