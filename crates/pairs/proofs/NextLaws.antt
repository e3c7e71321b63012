-- The least head is the next pair: within a row no end is below the head, so it is below all pairs before it and none behind it is below it.
use mathlib.Core.Path.{◌≡◌, sym, ◌∙◌, subst}
use mathlib.Core.Logic.{⊎_elim}
use mathlib.Core.Bool.{true, false}
use mathlib.Core.List.{List, [], ◌∷◌, ◌++◌, map}
use Prim.Native.Nat.{ℕ, suc, ◌+◌, ◌<◌, ◌≤◌}
use native.Mathlib.Numerals.{add-one}
use native.Mathlib.Omega.{arith}
use lib.ListN.{length, get_or, take, drop, set, length-drop, length-map, length-set, get_or-map}
use lib.Seq.{drop-cons, get_or-take, get_or-drop, get_or-set_same, length-take-le, take-set-le, drop-set-lt}
use lib.Ieee.{Float, binary64, add, lt, le}
use Rattle.model.specs.Candidates.{Candidate}
use Rattle.model.specs.Lists.{sort}
use Rattle.model.specs.Legs.{Pair, pair, by_sum}
use Rattle.model.proofs.Members.{Every, every_append}
use Rattle.bounds.specs.Amounts.{Amount}
use Rattle.bounds.proofs.Choices.{below_or_not}
use Rattle.bounds.proofs.Rank.{rank, le_rank, add_amount}
use Rattle.candidates.specs.Found.{no_candidate}
use Rattle.candidates.proofs.Ranked.{below_rank, not_below_rank, rank_below, rank_not_below}
use Rattle.pairs.specs.Left.{left, score_at, ScoresRise, scores_of, ScoresOf, head_sum, HeadAmounts, Least}
use Rattle.pairs.proofs.AddOrder.{add_order}
use Rattle.pairs.proofs.Fronts.{sort_first}
use Rattle.pairs.proofs.LeftLaws.{left_none, left_at, every_row, every_left}

abbrev score : Candidate → Float
score x = x.score

long : (xs : List Candidate) → length (scores_of xs) ≡ length xs
long xs = length-map xs score

abbrev at : List Candidate → ℕ → Float
at xs k = score (get_or xs k no_candidate)

scored : (xs : List Candidate) (k : ℕ) → score_at (scores_of xs) k ≡ at xs k
scored xs k = get_or-map score xs k no_candidate

module _ (xs ys : List Candidate) (rs : ScoresRise (scores_of xs)) (re : ScoresRise (scores_of ys)) where
  abbrev sum : ℕ → ℕ → Float
  sum k j = add binary64 (at xs k) (at ys j)

  amount : (zs : List Candidate) → ScoresRise (scores_of zs) → (k : ℕ) → k < length zs → Amount (at zs k)
  amount zs r k h = subst Amount (scored zs k) (r.amounts k (rw (long zs) h))

  sum_amount : (k j : ℕ) → k < length xs → j < length ys → Amount (sum k j)
  sum_amount k j h g = add_amount _ _ (amount xs rs k h) (amount ys re j g)

  -- no sum of a row is below an earlier one
  row_rises : (k i j : ℕ) → k < length xs → i ≤ j → j < length ys → rank (sum k i) ≤ rank (sum k j)
  row_rises k i j h le g = ⊎_elim
      (λ (w : i < j). le_rank (sum k i) (sum k j) (sum_amount k i h (omega arith)) (sum_amount k j h g)
      (add_order (at xs k) (at ys i) (at ys j) (amount xs rs k h) (amount ys re i (omega arith)) (amount ys re j g)
      (rw (scored ys i, scored ys j) at (re.rise i j w (rw (long ys) g)))))
      (λ (w : j ≤ i). let e : i ≡ j = omega arith in rw e (omega arith))
      (below_or_not i j)

  module _ (heads : List ℕ) (p : ℕ) (l : Least (scores_of xs) (scores_of ys) heads (length xs) p) where
    abbrev head : ℕ
    head = get_or heads p 0

    abbrev first : Float
    first = sum p head

    head_is : (k : ℕ) → head_sum (scores_of xs) (scores_of ys) heads k ≡ sum k (get_or heads k 0)
    unfolding head_sum
    head_is k = rw (scored xs k, scored ys (get_or heads k 0))

    sums : HeadAmounts (scores_of xs) (scores_of ys) heads (length xs)
    sums k h o = subst Amount (sym (head_is k)) (sum_amount k (get_or heads k 0) h (rw (long ys) at o))

    in_ys : head < length ys
    in_ys = rw (long ys) at l.some_end

    first_amount : Amount first
    first_amount = sum_amount p head l.below in_ys

    below_earlier : (k j : ℕ) → k < p → get_or heads k 0 ≤ j → j < length ys → lt first (sum k j) ≡ true
    below_earlier k j h le g =
        let hk : k < length xs = let b = l.below in omega arith in
        let o : get_or heads k 0 < length ys = omega arith in
        let t : lt first (sum k (get_or heads k 0)) ≡ true = rw (head_is p, head_is k) at (l.before sums k h (rw (long ys) o)) in
        let r = below_rank first (sum k (get_or heads k 0)) first_amount (sum_amount k (get_or heads k 0) hk o) t in
        let q = row_rises k (get_or heads k 0) j hk le g in
        rank_below first (sum k j) first_amount (sum_amount k j hk g) (omega arith)

    none_below : (k j : ℕ) → k < length xs → get_or heads k 0 ≤ j → j < length ys → lt (sum k j) first ≡ false
    none_below k j hk le g =
        let o : get_or heads k 0 < length ys = omega arith in
        let t : lt (sum k (get_or heads k 0)) first ≡ false = rw (head_is p, head_is k) at (l.behind sums k hk (rw (long ys) o)) in
        let r = not_below_rank (sum k (get_or heads k 0)) first (sum_amount k (get_or heads k 0) hk o) first_amount t in
        let q = row_rises k (get_or heads k 0) j hk le g in
        rank_not_below (sum k j) first (sum_amount k j hk g) first_amount (omega arith)

    module _ (fit : length xs ≤ length heads) where
      abbrev x : Candidate
      x = get_or xs p no_candidate

      abbrev taken : Pair
      taken = pair x (get_or ys head no_candidate)

      abbrev earlier : List Pair
      earlier = left (take p xs) ys (take p heads)

      abbrev later : List Pair
      later = map (pair x) (drop (suc head) ys) ++ left (drop (suc p) xs) ys (drop (suc p) heads)

      here : p < length heads
      here = let b = l.below in omega arith

      left_now : left xs ys heads ≡ earlier ++ (taken ∷ later)
      left_now = left_at ys xs heads p l.below here ∙ rw (drop-cons ys head no_candidate in_ys)

      left_next : left xs ys (set heads p (head + 1)) ≡ earlier ++ later
      left_next =
          left_at ys xs (set heads p (head + 1)) p l.below (rw (length-set heads p (head + 1)) here)
          ∙ rw (
            take-set-le p heads p (head + 1) (omega arith),
            get_or-set_same heads p (head + 1) 0 here,
            drop-set-lt (suc p) heads p (head + 1) (omega arith),
            add-one head,
          )

      every_earlier : Every (λ (q : Pair). by_sum taken q ≡ true) earlier
      every_earlier = every_left (λ (q : Pair). by_sum taken q ≡ true) ys (take p xs) (take p heads) (λ k j a b c.
          let h : k < p = let e = length-take-le p xs (let i = l.below in omega arith) in omega arith in
          rw (get_or-take p xs k no_candidate h) (below_earlier k j h (rw (get_or-take p heads k 0 h) at b) c))

      every_later : Every (λ (q : Pair). by_sum q taken ≡ false) later
      every_later = every_append (λ (q : Pair). by_sum q taken ≡ false) (map (pair x) (drop (suc head) ys))
          (every_row (λ (q : Pair). by_sum q taken ≡ false) ys x (suc head) (λ j a b. none_below p j l.below (omega arith) b))
          (every_left (λ (q : Pair). by_sum q taken ≡ false) ys (drop (suc p) xs) (drop (suc p) heads) (λ k j a b c.
          let hk : suc p + k < length xs = let e = length-drop (suc p) xs in omega arith in
          rw (get_or-drop (suc p) xs k no_candidate) (none_below (suc p + k) j hk (rw (get_or-drop (suc p) heads k 0) at b) c)))

      next_is : sort by_sum (left xs ys heads) ≡ taken ∷ sort by_sum (left xs ys (set heads p (head + 1)))
      next_is = rw (left_now, left_next) (sort_first by_sum taken earlier later every_earlier every_later)

-- for starts and ends of any kind, by their scores
module _ {A : Type 0} (score_of : A → Float) (starts ends : List A) (heads : List ℕ) (fit : length starts ≤ length heads) (xs ys : List Candidate) where
  pub none_left : ((k : ℕ) → k < length starts → length (map score_of ends) ≤ get_or heads k 0) → map score_of starts ≡ scores_of xs → map score_of ends ≡ scores_of ys → left xs ys heads ≡ []
  none_left f a b =
      let m : length starts ≡ length xs = sym (length-map starts score_of) ∙ rw a (long xs) in
      left_none xs ys heads (λ k h. rw (b, long ys) at (f k (rw m h)))

  pub next_left : (p : ℕ) → Least (map score_of starts) (map score_of ends) heads (length starts) p → ScoresOf (map score_of starts) (map score_of ends) xs ys
      → sort by_sum (left xs ys heads) ≡ pair (get_or xs p no_candidate) (get_or ys (get_or heads p 0) no_candidate) ∷ sort by_sum (left xs ys (set heads p (get_or heads p 0 + 1)))
  next_left p l s =
      let a = s.starts_are in
      let b = s.ends_are in
      let m : length starts ≡ length xs = sym (length-map starts score_of) ∙ rw a (long xs) in
      next_is xs ys (rw a at s.starts_rise) (rw b at s.ends_rise) heads p (rw (a, b, m) at l) (rw m at fit)
