-- The two loops over the points: whether each has a candidate, and which is the nearest of all.
use Prim.Native.Nat.{ℕ, suc, ◌+◌, ◌-◌, ◌≤◌, ◌<◌}
use mathlib.Core.Path.{◌≡◌, refl, sym, ap, ◌∙◌, subst}
use mathlib.Core.Bool.{Bool, true, false, cond, not}
use mathlib.Core.Option.{none, some}
use mathlib.Core.List.Memᴰ
use mathlib.Core.List.{List, [], ◌∷◌, map}
use native.Mathlib.Nat.{le_refl}
use native.Mathlib.Numerals.{add-one}
use native.Mathlib.Omega.{arith}
use Rattle.std.specs.Prelude.{Ok}
use lib.Dec.{T}
use lib.ListN.{length}
use lib.Ieee.{Float, lt, le}
use lib.Seq.{take_all}
use Rattle.model.specs.declared.Counts.{Counts}
use Rattle.model.specs.Numbers.{infinity}
use Rattle.model.specs.Lists.{maybe, tabulate}
use Rattle.model.specs.Judge.{WellFormed}
use Rattle.model.specs.Sheet.{sheet_of}
use Rattle.model.specs.Candidates.{Candidate, nearest, Closest, closest, closest_point}
use Rattle.model.specs.Decode.{first_empty}
use Rattle.model.proofs.Members.{here, in_tab, length_tab, Every}
use Rattle.sheet.proofs.Parts.{map_tab}
use Rattle.bounds.specs.Amounts.{Amount}
use Rattle.bounds.proofs.AmountLaws.{finite_amount}
use Rattle.bounds.proofs.Rank.{rank, le_rank, rank_le, nle_rank}
use Rattle.candidates.specs.Found.{candidates_at}
use Rattle.candidates.specs.Points.{candidates_of, no_candidate_of, close_enough, judge_points, points_of}
use Rattle.candidates.specs.Nearest.{EqualAmounts}
use Rattle.candidates.proofs.Ranked.{lt_is, below_rank, not_below_rank}
use Rattle.candidates.proofs.Kept.{kept_distant}
use Rattle.candidates.proofs.Distances.{alike, alike_rank, infinity_amount, finite_below, away_amount}
use Rattle.candidates.proofs.SheetFacts.{most_finite}
use Rattle.candidates.proofs.Rules.{candidates_are}

front_of : {A : Type 0} (f : ℕ → A) (n i : ℕ) → i < n → tabulate (n - i) i f ≡ f i ∷ tabulate (n - (i + 1)) (i + 1) f
unfolding tabulate
front_of f n i h = let e : n - i ≡ suc (n - (i + 1)) = omega arith in rw e

past : {A : Type 0} (f : ℕ → A) (n i : ℕ) → n ≤ i → tabulate (n - i) i f ≡ []
unfolding tabulate
past f n i h = let e : n - i ≡ 0 = omega arith in rw e

-- ---- the nearest of all

yes : (b : Bool) → T b → b ≡ true
yes true t = refl
yes false t = absurd t

below : (x y : Float) → Amount x → Amount y → rank x ≤ rank y → le x y ≡ true
below x y p q h = yes (le x y) (rank_le x y p q h)

above : (x y : Float) → Amount x → Amount y → rank y < rank x → le x y ≡ false
above x y p q h = go (le x y) refl
  where
    go : (b : Bool) → le x y ≡ b → b ≡ false
    go true e = absurd (omega (arith, le_rank x y p q (subst T (sym e) tt)))
    go false e = refl

-- the best so far after point i, whose least distance is d
abbrev closer : ℕ → Closest → Float → Closest
closer i best d = cond (lt d best.distance) (record { point = i; distance = d }) best

closer_low : (i : ℕ) (best : Closest) (d : Float) → Amount best.distance → Amount d → Amount (closer i best d).distance × (rank (closer i best d).distance ≤ rank best.distance) × (rank (closer i best d).distance ≤ rank d)
closer_low i best d p q = go (lt d best.distance) refl
  where
    go : (t : Bool) → lt d best.distance ≡ t → (let b : Closest = cond t (record { point = i; distance = d }) best in Amount b.distance × (rank b.distance ≤ rank best.distance) × (rank b.distance ≤ rank d))
    go true e = (q, omega (arith, below_rank d best.distance q p e), le_refl _)
    go false e = (p, le_refl _, not_below_rank d best.distance q p e)

closest_low : (i : ℕ) (best : Closest) (ds : List Float) → Amount best.distance → Every Amount ds → Amount (closest i best ds).distance × (rank (closest i best ds).distance ≤ rank best.distance)
unfolding closest
closest_low i best [] p ps = (p, le_refl _)
closest_low i best (d ∷ ds) p ps =
    let one = closer_low i best d p (ps d here) in
    let w = closest_low (suc i) (closer i best d) ds one.0 (λ z m. ps z (Memᴰ.tail m)) in
    (w.0, omega (arith, one.1, w.1))

module _ (s : List ℕ) (c : Counts) where
  abbrev most : Float
  most = (sheet_of s c).settings.max_candidate_distance_m

  most_amount : WellFormed s c → Amount most
  most_amount ok = finite_amount most (most_finite s c ok)

  abbrev away_of : ℕ → Float
  away_of i = nearest (candidates_at (sheet_of s c) i)

  distances_are : map nearest (candidates_of (sheet_of s c)) ≡ tabulate c.p 0 away_of
  distances_are = ap (map nearest) (candidates_are s c) ∙ map_tab nearest (candidates_at (sheet_of s c)) c.p 0

  -- Before point i, with the least distance so far and its point: none is near enough yet, and the nearest from there on is that of all points.
  pub record SoFar (i at : ℕ) (least : Float) : Type 0 where
    pub best : Closest
    pub point : at ≡ best.point
    pub same : EqualAmounts least best.distance
    pub far : rank most < rank best.distance
    pub rest : closest i best (tabulate (c.p - i) i (λ j. nearest (candidates_at (sheet_of s c) j))) ≡ closest_point (candidates_of (sheet_of s c))

  pub begun : WellFormed s c → SoFar 0 0 infinity
  unfolding closest_point
  begun ok = record {
    best = record { point = 0; distance = infinity };
    point = refl;
    same = alike infinity infinity infinity_amount infinity_amount refl;
    far = finite_below most (most_finite s c ok);
    rest = let z : c.p - 0 ≡ c.p = omega arith in rw (z, distances_are);
  }

  module _ (i at : ℕ) (least : Float) (so : SoFar i at least) (ok : WellFormed s c) where
    module _ (h : i < c.p) (d : Float) (same : EqualAmounts d (nearest (candidates_at (sheet_of s c) i))) where
      later : Every Amount (tabulate (c.p - (i + 1)) (i + 1) away_of)
      later x m =
          let w = in_tab (c.p - (i + 1)) (i + 1) away_of m in
          subst Amount w.2 (away_amount (sheet_of s c) (i + 1 + w.0) (kept_distant s c (i + 1 + w.0) (omega (arith, w.1)) ok))

      onward : closest (i + 1) (closer i so.best (away_of i)) (tabulate (c.p - (i + 1)) (i + 1) away_of) ≡ closest_point (candidates_of (sheet_of s c))
      unfolding closest
      onward = ap (λ (j : ℕ). closest j (closer i so.best (away_of i)) (tabulate (c.p - (i + 1)) (i + 1) away_of)) (add-one i) ∙ sym (ap (closest i so.best) (front_of away_of c.p i h)) ∙ so.rest

      low : Amount (closer i so.best (away_of i)).distance × (rank (closer i so.best (away_of i)).distance ≤ rank so.best.distance) × (rank (closer i so.best (away_of i)).distance ≤ rank (away_of i))
      low = closer_low i so.best (away_of i) so.same.right same.right

      pub near : le d most ≡ true → Ok tt ≡ close_enough most (candidates_of (sheet_of s c))
      unfolding close_enough
      near t =
          let all = closest_low (i + 1) (closer i so.best (away_of i)) (tabulate (c.p - (i + 1)) (i + 1) away_of) low.0 later in
          let r : rank d ≤ rank most = le_rank d most same.left (most_amount ok) (subst T (sym t) tt) in
          let e : le (closest_point (candidates_of (sheet_of s c))).distance most ≡ true =
          ap (λ (b : Closest). le b.distance most) (sym onward) ∙ below _ most all.0 (most_amount ok) (omega (arith, all.1, low.2, alike_rank same)) in
          sym (rw e)

      test : lt d least ≡ lt (away_of i) so.best.distance
      test = lt_is d least same.left so.same.left ∙ rw (alike_rank same, alike_rank so.same) (sym (lt_is (away_of i) so.best.distance same.right so.same.right))

      module _ (far : le d most ≡ false) where
        beyond : rank most < rank (away_of i)
        beyond = rw (alike_rank same) at (nle_rank d most same.left (most_amount ok) (subst (λ (b : Bool). T (not b)) (sym far) tt))

        pub passed_closer : lt d least ≡ true → SoFar (i + 1) i d
        passed_closer t =
            let e : closer i so.best (away_of i) ≡ record { point = i; distance = away_of i } = rw (sym test ∙ t) in
            record { best = record { point = i; distance = away_of i }; point = refl; same = same; far = beyond; rest = rw e at onward }

        pub passed_farther : lt d least ≡ false → SoFar (i + 1) at least
        passed_farther t =
            let e : closer i so.best (away_of i) ≡ so.best = rw (sym test ∙ t) in
            record { best = so.best; point = so.point; same = so.same; far = so.far; rest = rw e at onward }

    pub too_far : c.p ≤ i → no_candidate_of at ≡ close_enough most (candidates_of (sheet_of s c))
    unfolding close_enough closest
    too_far h =
        let is : closest_point (candidates_of (sheet_of s c)) ≡ so.best = sym so.rest ∙ ap (closest i so.best) (past away_of c.p i h) in
        let e = above so.best.distance most so.same.right (most_amount ok) so.far in
        ap no_candidate_of so.point ∙ sym (rw (is, e))

-- ---- whether each has one

module _ (s : List ℕ) (c : Counts) where
  -- Before point i: none is empty yet.
  pub record Filled (i : ℕ) : Type 0 where
    pub rest : first_empty i (tabulate (c.p - i) i (candidates_at (sheet_of s c))) ≡ first_empty 0 (candidates_of (sheet_of s c))

  pub filled_none : Filled 0
  filled_none = record { rest = let z : c.p - 0 ≡ c.p = omega arith in rw (z, candidates_are s c) }

  judged : 0 < c.p → points_of (sheet_of s c) ≡ maybe (first_empty 0 (candidates_of (sheet_of s c))) (close_enough (sheet_of s c).settings.max_candidate_distance_m (candidates_of (sheet_of s c))) no_candidate_of
  unfolding points_of judge_points
  judged h = go (candidates_of (sheet_of s c)) (ap length (candidates_are s c) ∙ length_tab c.p 0 (candidates_at (sheet_of s c)))
    where
      go : (cs : List (List Candidate)) → length cs ≡ c.p → judge_points (sheet_of s c).settings.max_candidate_distance_m cs ≡ maybe (first_empty 0 cs) (close_enough (sheet_of s c).settings.max_candidate_distance_m cs) no_candidate_of
      go [] e = absurd (omega arith)
      go (xs ∷ rest) e = refl

  module _ (i : ℕ) (so : Filled i) where
    module _ (h : i < c.p) where
      pub empty : length (candidates_at (sheet_of s c) i) ≤ 0 → no_candidate_of i ≡ points_of (sheet_of s c)
      unfolding first_empty maybe
      empty z =
          let none : candidates_at (sheet_of s c) i ≡ [] = sym (take_all 0 (candidates_at (sheet_of s c) i) z) in
          let e : first_empty 0 (candidates_of (sheet_of s c)) ≡ some i = sym so.rest ∙ ap (first_empty i) (front_of (candidates_at (sheet_of s c)) c.p i h) ∙ rw (none, first_empty) in
          sym (judged (omega arith) ∙ rw e)

      pub filled : 0 < length (candidates_at (sheet_of s c) i) → Filled (i + 1)
      unfolding first_empty
      filled g = record {
        rest = go (candidates_at (sheet_of s c) i) g ∙ sym (ap (first_empty i) (front_of (candidates_at (sheet_of s c)) c.p i h)) ∙ so.rest;
      }
        where
          go : (ys : List Candidate) → 0 < length ys → first_empty (i + 1) (tabulate (c.p - (i + 1)) (i + 1) (candidates_at (sheet_of s c))) ≡ first_empty i (ys ∷ tabulate (c.p - (i + 1)) (i + 1) (candidates_at (sheet_of s c)))
          go [] g = absurd (omega arith)
          go (y ∷ ys) g = refl

    pub all_filled : c.p ≤ i → 0 < c.p → close_enough (sheet_of s c).settings.max_candidate_distance_m (candidates_of (sheet_of s c)) ≡ points_of (sheet_of s c)
    unfolding first_empty maybe
    all_filled h g =
        let e : first_empty 0 (candidates_of (sheet_of s c)) ≡ none = sym so.rest ∙ ap (first_empty i) (past (candidates_at (sheet_of s c)) c.p i h) in
        sym (judged g ∙ rw e)
