-- The loop over the pairs: those that are left decide, as all of them do from the start.
use Rattle.std.proofs.Common.{ℕ, ◌<◌, ◌≡◌, true, false, List, [], ◌∷◌, length, ap, arith}
use Rattle.std.proofs.Math.Option.{Option}
use Rattle.std.specs.Prelude.{Some, None}
use Rattle.model.specs.Sheet.{Sheet}
use Rattle.model.specs.declared.Limits.{Limits}
use Rattle.model.specs.Numbers.{◌≤ᶠ◌}
use Rattle.model.specs.Lists.{sort, fold}
use Rattle.model.specs.Legs.{Pair, pair, by_sum, Scored, MiddleSearch, LegEnd, Turn, best_score, leg_end, next_pair, try_pair, end_or_try, try_pairs}
use Rattle.candidates.specs.declared.candidate.Candidate as code
use Rattle.candidates.specs.Found.{at_road, held, item_at, Rising}
use Rattle.candidates.proofs.Inserting.{length_sort}
use Rattle.pairs.specs.declared.Next.{Next}
use Rattle.pairs.specs.Left.{left, NextOf}
use Rattle.pairs.proofs.NextHeld.{scores, none_held, next_held}

-- the pairs p, ps are left, and decide for `all`
module _ (b : Limits) (search : MiddleSearch) (best : Option Scored) (rows : List Pair) (p : Pair) (ps : List Pair) (next : rows ≡ p ∷ ps)
    (all : LegEnd) (so_far : try_pairs b search rows best ≡ all) where
  -- a pair whose sum reaches the best score ends them
  pub good_enough : best_score best ≤ᶠ p.sum ≡ true → leg_end best ≡ all
  unfolding try_pairs end_or_try next_pair
  good_enough e = rw (next, e) at so_far

  -- else it is tried
  pub tried : best_score best ≤ᶠ p.sum ≡ false → (turn : Turn) → turn ≡ try_pair b search best p → next_pair turn (try_pairs b search ps) ≡ all
  unfolding try_pairs end_or_try
  tried e turn is = rw is (rw (next, e, end_or_try) at so_far)

-- no pair is left
pub all_tried : (b : Limits) (search : MiddleSearch) (best : Option Scored) (rows : List Pair) (all : LegEnd) → rows ≡ [] → try_pairs b search (sort by_sum rows) best ≡ all → leg_end best ≡ all
unfolding sort fold try_pairs
all_tried b search best rows all none so_far = rw none at so_far

-- ---- which pairs are left, where `next_pair` was asked for those of xs and ys, and these are the starts and the ends

module _ (t : Sheet) (starts ends : List code.Candidate) (old new : List ℕ) {xs ys : List code.Candidate} where
  pub no_pair_left : NextOf (scores xs) (scores ys) old new None → xs ≡ starts → ys ≡ ends → left (held t starts) (held t ends) old ≡ []
  no_pair_left none first last = none_held t starts ends old new (rw (first, last) at none)

  pub next_pair_left : (p : Next) → NextOf (scores xs) (scores ys) old new (Some p) → (p.start < length xs) × (p.end < length ys) → xs ≡ starts → ys ≡ ends → Rising starts → Rising ends
      → sort by_sum (left (held t starts) (held t ends) old) ≡ pair (at_road t (item_at starts p.start)) (at_road t (item_at ends p.end)) ∷ sort by_sum (left (held t starts) (held t ends) new)
  next_pair_left p next within first last a b = next_held t starts ends old new p (rw (first, last) at next) (rw (first, last) at within) a b

  -- fewer than before
  pub fewer_pairs_left : (p : Next) → NextOf (scores xs) (scores ys) old new (Some p) → (p.start < length xs) × (p.end < length ys) → xs ≡ starts → ys ≡ ends → Rising starts → Rising ends
      → length (left (held t starts) (held t ends) new) < length (left (held t starts) (held t ends) old)
  fewer_pairs_left p next within first last a b =
      let all = length_sort by_sum (left (held t starts) (held t ends) old) in
      let rest = length_sort by_sum (left (held t starts) (held t ends) new) in
      omega (arith, all, rest, ap length (next_pair_left p next within first last a b))
