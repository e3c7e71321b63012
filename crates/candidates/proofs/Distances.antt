-- The least distance of a list of candidates by ranks, where the order has no part.
use Prim.Native.Nat.{ℕ, ◌≤◌, ◌<◌, min}
use mathlib.Core.Path.{◌≡◌, refl, sym, ap, ◌∙◌}
use mathlib.Core.Bool.{Bool, true, false, cond}
use mathlib.Core.List.Memᴰ
use mathlib.Core.List.{List, [], ◌∷◌, ◌++◌, map}
use native.Mathlib.Omega.{arith}
use lib.Dec.{T}
use lib.ListN.{length}
use lib.Seq.{take_all}
use lib.Ieee.{Float, binary64, of_bits, lt}
use borrow.Author.Tests.{eqb-true, eq-eqb}
use Rattle.model.specs.Numbers.{fmin, infinity}
use Rattle.model.specs.Lists.{insert, sort, fold}
use Rattle.model.specs.Sheet.{Sheet}
use Rattle.model.specs.Candidates.{Candidate, better, nearest}
use Rattle.model.proofs.Members.{here, in_sort, in_take, Every}
use Rattle.bounds.specs.Amounts.{Finite, Amount, amount}
use Rattle.bounds.proofs.Rank.{rank, Number, number, to_number, lt_rank}
use Rattle.bounds.proofs.AmountLaws.{finite_amount}
use Rattle.candidates.specs.declared.candidate.Candidate as code
use Rattle.candidates.specs.Found.{kept_at, passing_at, candidates_at, by_number}
use Rattle.candidates.specs.Nearest.{EqualAmounts, least_of, seen_of}
use Rattle.std.specs.Prelude.{Option}
use Rattle.std.specs.Iterator.{Drains}
use Rattle.std.proofs.lemmas.Iterator.{YieldsList, items_from_drains}
use Rattle.std.proofs.lemmas.List.{map-id}
use Rattle.candidates.specs.declared.closest.Seen.{Seen}
use Rattle.candidates.proofs.Folds.{fold_append}
use Rattle.candidates.proofs.Inserting.{length_sort}
use Rattle.candidates.proofs.Ranked.{eq_is, below_rank, not_below_rank}
use Rattle.candidates.proofs.Listed.{candidates_cut}

-- ---- equal amounts

pub alike : (a b : Float) → Amount a → Amount b → rank a ≡ rank b → EqualAmounts a b
alike a b p q e = record { left = p; right = q; equal = eq_is a b p q ∙ eq-eqb _ _ e }

pub alike_rank : {a b : Float} → EqualAmounts a b → rank a ≡ rank b
alike_rank {a} {b} h = eqb-true _ _ (sym (eq_is a b h.left h.right) ∙ h.equal)

pub infinity_amount : Amount infinity
unfolding amount
infinity_amount = tt

-- a number of metres is below it
pub finite_below : (x : Float) → Finite x → rank x < rank infinity
unfolding lt
finite_below x h = lt_rank x infinity (finite_amount x h) infinity_amount (go (to_number x h))
  where
    go : {y : Float} → Number y → T (lt y infinity)
    go (number z) = tt

-- the smaller of two
module _ (a b : Float) (p : Amount a) (q : Amount b) where
  fmin_both : Amount (fmin a b) × (rank (fmin a b) ≡ min (rank a) (rank b))
  unfolding fmin
  fmin_both = go (lt b a) refl
    where
      go : (t : Bool) → lt b a ≡ t → Amount (cond t b a) × (rank (cond t b a) ≡ min (rank a) (rank b))
      go true e = (q, omega (arith, below_rank b a q p e))
      go false e = (p, omega (arith, not_below_rank b a q p e))

-- ---- the least of a list

abbrev pub Distant : Candidate → Type 0
Distant x = Amount x.distance_m

unfoldable least_from : ℕ → List Candidate → ℕ
least_from m [] = m
least_from m (x ∷ xs) = least_from (min m (rank x.distance_m)) xs

least_min : (m a : ℕ) (xs : List Candidate) → least_from (min m a) xs ≡ min (least_from m xs) a
unfolding least_from
least_min m a [] = refl
least_min m a (x ∷ xs) =
    let e : min (min m a) (rank x.distance_m) ≡ min (min m (rank x.distance_m)) a = omega arith in
    ap (λ (n : ℕ). least_from n xs) e ∙ least_min (min m (rank x.distance_m)) a xs

least_insert : (below : Candidate → Candidate → Bool) (m : ℕ) (x : Candidate) (ys : List Candidate) → least_from m (insert below x ys) ≡ min (least_from m ys) (rank x.distance_m)
unfolding least_from insert
least_insert below m x [] = refl
least_insert below m x (y ∷ ys) = go (below x y) (least_insert below (min m (rank y.distance_m)) x ys)
  where
    go : (b : Bool) → least_from (min m (rank y.distance_m)) (insert below x ys) ≡ min (least_from (min m (rank y.distance_m)) ys) (rank x.distance_m)
        → least_from m (cond b (x ∷ y ∷ ys) (y ∷ insert below x ys)) ≡ min (least_from (min m (rank y.distance_m)) ys) (rank x.distance_m)
    go true e = least_swap
      where
        least_swap : least_from (min (min m (rank x.distance_m)) (rank y.distance_m)) ys ≡ min (least_from (min m (rank y.distance_m)) ys) (rank x.distance_m)
        least_swap =
            let e : min (min m (rank x.distance_m)) (rank y.distance_m) ≡ min (min m (rank y.distance_m)) (rank x.distance_m) = omega arith in
            ap (λ (n : ℕ). least_from n ys) e ∙ least_min (min m (rank y.distance_m)) (rank x.distance_m) ys
    go false e = e

fold_both : (b : Float) (xs : List Candidate) → Amount b → Every Distant xs
    → Amount (fold (λ d x. fmin d x.distance_m) b xs) × (rank (fold (λ d x. fmin d x.distance_m) b xs) ≡ least_from (rank b) xs)
unfolding fold least_from
fold_both b [] p ps = (p, refl)
fold_both b (x ∷ xs) p ps =
    let one = fmin_both b x.distance_m p (ps x here) in
    let w = fold_both (fmin b x.distance_m) xs one.0 (λ z m. ps z (Memᴰ.tail m)) in
    (w.0, w.1 ∙ ap (λ (n : ℕ). least_from n xs) one.1)

pub nearest_amount : (xs : List Candidate) → Every Distant xs → Amount (nearest xs)
unfolding nearest
nearest_amount xs ps = (fold_both infinity xs infinity_amount ps).0

nearest_rank : (xs : List Candidate) → Every Distant xs → rank (nearest xs) ≡ least_from (rank infinity) xs
unfolding nearest
nearest_rank xs ps = (fold_both infinity xs infinity_amount ps).1

-- sorted or not
least_sort : (m : ℕ) (ys xs : List Candidate) → least_from m (fold (λ zs x. insert better x zs) ys xs) ≡ least_from (least_from m ys) xs
unfolding fold least_from
least_sort m ys [] = refl
least_sort m ys (x ∷ xs) = least_sort m (insert better x ys) xs ∙ ap (λ (n : ℕ). least_from n xs) (least_insert better m x ys)

pub nearest_sorted : (xs : List Candidate) → Every Distant xs → EqualAmounts (nearest xs) (nearest (sort better xs))
unfolding sort least_from
nearest_sorted xs ps =
    let qs : Every Distant (sort better xs) = λ x m. ps x (in_sort better xs m) in
    alike _ _ (nearest_amount xs ps) (nearest_amount (sort better xs) qs) (nearest_rank xs ps ∙ sym (nearest_rank (sort better xs) qs ∙ least_sort (rank infinity) [] xs))

-- ---- in the code's loop

pub infinity_is : of_bits binary64 0x7ff0_0000_0000_0000 ≡ infinity
unfolding of_bits
infinity_is = refl

pub least_none : of_bits binary64 0x7ff0_0000_0000_0000 ≡ least_of []
unfolding least_of fold
least_none = infinity_is

-- one candidate more
module _ (xs : List code.Candidate) (x : code.Candidate) (least : Float) (so_far : least ≡ least_of xs) where
  least_more : least_of (xs ++ (x ∷ [])) ≡ fmin least x.distance_m
  unfolding least_of fold
  least_more = fold_append (λ d (y : code.Candidate). fmin d y.distance_m) infinity xs (x ∷ []) ∙ ap (λ d. fmin d x.distance_m) (sym so_far)

  pub least_nearer : lt x.distance_m least ≡ true → x.distance_m ≡ least_of (xs ++ (x ∷ []))
  unfolding fmin
  least_nearer e = sym (least_more ∙ rw e)

  pub least_stays : lt x.distance_m least ≡ false → least ≡ least_of (xs ++ (x ∷ []))
  unfolding fmin
  least_stays e = sym (least_more ∙ rw e)

-- what is seen of an iterator is what is seen of its list
pub seen_drained : {S : Type 0} {steps : S → Option code.Candidate → S → Type 0} {s : S} {rows : List code.Candidate} (r : Seen) → ((xs : List code.Candidate) × Drains steps s xs × (r ≡ seen_of xs)) → YieldsList steps (λ x. x) s rows → r ≡ seen_of rows
seen_drained r d is =
    let drains = d.1 in
    let same = items_from_drains d.0 (drains.1.0, drains.1.1, λ _. (drains.0, drains.1.2)) is in
    d.2 ∙ ap seen_of (sym (map-id d.0) ∙ same)

-- ---- a point's candidates

fold_map : {A B C : Type 0} (f : A → B) (g : C → B → C) (b : C) (xs : List A) → fold g b (map f xs) ≡ fold (λ d x. g d (f x)) b xs
unfolding fold
fold_map f g b [] = refl
fold_map f g b (x ∷ xs) = fold_map f g (g b (f x)) xs

-- the least distance by the code's records
pub least_is : (xs : List Candidate) → least_of (map by_number xs) ≡ nearest xs
unfolding least_of nearest
least_is xs = fold_map by_number (λ d x. fmin d x.distance_m) infinity xs

module _ (t : Sheet) (i : ℕ) (ps : Every Distant (kept_at t i)) where
  -- where all that pass are kept
  pub all_kept : length (kept_at t i) ≤ t.settings.max_candidates → EqualAmounts (nearest (kept_at t i)) (nearest (candidates_at t i))
  all_kept le =
      let is : candidates_at t i ≡ passing_at t i = candidates_cut t i ∙ take_all t.settings.max_candidates (passing_at t i) (omega (arith, length_sort better (kept_at t i))) in
      rw is (nearest_sorted (kept_at t i) ps)

  candidates_distant : Every Distant (candidates_at t i)
  candidates_distant x m = ps x (in_sort better (kept_at t i) (in_take t.settings.max_candidates (passing_at t i) (rw (candidates_cut t i) at m)))

  pub away_amount : Amount (nearest (candidates_at t i))
  away_amount = nearest_amount (candidates_at t i) candidates_distant
