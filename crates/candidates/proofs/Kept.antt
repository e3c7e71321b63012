-- The candidates of a point in the order of its rows: each is scored and on the sheet, and their roads' numbers rise. So the code's order, which is by score alone, is the definition's.
use Prim.Native.Nat.{ℕ, zero, suc, ◌+◌, ◌≤◌, ◌<◌}
use mathlib.Core.Path.{◌≡◌, refl, sym, ap, ◌∙◌, subst}
use mathlib.Core.Logic.{inl, inr}
use mathlib.Core.Option.{Option, none, some}
use mathlib.Core.List.Memᴰ
use mathlib.Core.List.{List, [], ◌∷◌, map}
use native.Mathlib.Omega.{arith}
use lib.Dec.{T}
use lib.ListN.{length, length-map}
use Rattle.model.specs.declared.Counts.{Counts}
use Rattle.model.specs.declared.Settings.{Settings}
use Rattle.model.specs.declared.Point.{Point}
use Rattle.model.specs.Lists.{In, insert, sort, fold, filter_map, cons_some, tabulate}
use Rattle.model.specs.Layout.{most_measured, points_bytes, rows_bytes}
use Rattle.model.specs.Judge.{WellFormed, row_count, rows_before, row_road}
use Rattle.model.specs.Sheet.{point_of, row_of, sheet_of}
use Rattle.model.specs.View.{Projection, projection_of}
use Rattle.model.specs.Candidates.{Candidate, candidate_of, passes, candidate, better}
use Rattle.model.proofs.Members.{here, in_collect, in_tab, length_tab, in_insert, map_insert, Every, every_none, every_map}
use Rattle.model.proofs.RowSums.{rows_within}
use Rattle.sheet.proofs.Parts.{map_tab}
use Rattle.sheet.proofs.MeasuredPoints.{measured_at, measured_rows}
use Rattle.bounds.specs.Amounts.{Amount}
use Rattle.bounds.proofs.AmountLaws.{finite_amount}
use Rattle.bounds.proofs.Sources.{when_some}
use Rattle.candidates.specs.declared.candidate.Candidate as code
use Rattle.candidates.specs.Found.{no_point, kept_at, Measured, OnSheet, by_number, lower}
use Rattle.candidates.proofs.Ranked.{ScoreAmount, by_score}
use Rattle.candidates.proofs.Weighed.{passing_score}
use Rattle.candidates.proofs.SheetFacts.{weighed, measured, on_sheet, row_number, rows_rise}

-- the roads' numbers rise
abbrev pub NumbersRise : List Candidate → Type 0
NumbersRise [] = Unit {0}
NumbersRise (x ∷ xs) = Every (λ (y : Candidate). x.road.number < y.road.number) xs × NumbersRise xs

-- ---- each of them comes of a row

filtered_few : {A : Type 0} (f : A → Option Candidate) (xs : List A) → length (filter_map f xs) ≤ length xs
unfolding filter_map cons_some
filtered_few f [] = omega arith
filtered_few f (x ∷ xs) = go (f x) (filtered_few f xs)
  where
    go : (o : Option Candidate) → length (filter_map f xs) ≤ length xs → length (cons_some o (filter_map f xs)) ≤ suc (length xs)
    go none h = omega arith
    go (some y) h = omega arith

module _ (s : List ℕ) (c : Counts) (i : ℕ) (h : i < c.p) where
  abbrev set : Settings
  set = (sheet_of s c).settings

  abbrev point : Point
  point = point_of (points_bytes s c) i

  abbrev spot : ℕ → Projection
  spot k = projection_of (sheet_of s c) (row_of (rows_bytes s c) k)

  kept_are : kept_at (sheet_of s c) i ≡ filter_map (candidate set point) (tabulate (row_count s i) (rows_before s i) spot)
  unfolding kept_at
  kept_are = rw (measured_at s c i h no_point, measured_rows s c i h no_point)
      (ap (filter_map (candidate set point)) (map_tab (projection_of (sheet_of s c)) (row_of (rows_bytes s c)) (row_count s i) (rows_before s i)))

  -- those of n rows from row k on
  abbrev run : ℕ → ℕ → List Candidate
  run n k = filter_map (candidate set point) (tabulate n k spot)

  of_row : (n k : ℕ) (x : Candidate) → In x (run n k) → (j : ℕ) × (j < n) × T (passes set (candidate_of set point (spot (k + j)))) × (candidate_of set point (spot (k + j)) ≡ x)
  unfolding candidate
  of_row n k x m =
      let a = in_collect (candidate set point) (tabulate n k spot) m in
      let b = in_tab n k spot a.1 in
      let w = when_some _ _ x (ap (candidate set point) b.2 ∙ a.2) in
      (b.0, b.1, w.0, w.1)

  module _ (ok : WellFormed s c) where
    number_is : (k : ℕ) → k < c.m → (candidate_of set point (spot k)).road.number ≡ row_road s c k
    unfolding candidate_of
    number_is k g = row_number s c ok i h k g

    within : (k : ℕ) → k < row_count s i → rows_before s i + k < c.m
    within k l = omega (arith, rows_within s c ok.rows i h)

    run_rises : (n k : ℕ) → k + n ≡ row_count s i → NumbersRise (run n (rows_before s i + k))
    unfolding filter_map tabulate candidate cons_some
    run_rises zero k e = tt
    run_rises (suc n) k e =
        let next : rows_before s i + k + 1 ≡ rows_before s i + (k + 1) = omega arith in
        let later : NumbersRise (run n (rows_before s i + k + 1)) = rw next (run_rises n (k + 1) (omega arith)) in
        go (candidate set point (spot (rows_before s i + k))) refl later
      where
        above : (x : Candidate) → candidate set point (spot (rows_before s i + k)) ≡ some x → Every (λ (y : Candidate). x.road.number < y.road.number) (run n (rows_before s i + k + 1))
        above x f y m =
            let is = (when_some _ _ x f).1 in
            let w = of_row n (rows_before s i + k + 1) y m in
            let there : rows_before s i + k + 1 + w.0 ≡ rows_before s i + (k + 1 + w.0) = omega arith in
            let less : w.0 < n = w.1 in
            let a : row_road s c (rows_before s i + k) ≡ x.road.number = sym (number_is (rows_before s i + k) (within k (omega arith))) ∙ ap (λ (z : Candidate). z.road.number) is in
            let b : row_road s c (rows_before s i + (k + 1 + w.0)) ≡ y.road.number =
            sym (number_is (rows_before s i + (k + 1 + w.0)) (within (k + 1 + w.0) (omega arith))) ∙ ap (λ (z : Candidate). z.road.number) (rw there at w.3) in
            omega (arith, a, b, rows_rise s c ok i h k (k + 1 + w.0) (omega arith) (omega arith))

        go : (o : Option Candidate) → candidate set point (spot (rows_before s i + k)) ≡ o → NumbersRise (run n (rows_before s i + k + 1)) → NumbersRise (cons_some o (run n (rows_before s i + k + 1)))
        go none f r = r
        go (some x) f r = (above x f, r)

    each : (P : Candidate → Type 0) → ((k : ℕ) → k < c.m → T (passes set (candidate_of set point (spot k))) → P (candidate_of set point (spot k))) → Every P (kept_at (sheet_of s c) i)
    each P f x m =
        let w = of_row (row_count s i) (rows_before s i) x (subst (In x) kept_are m) in
        subst P w.3 (f (rows_before s i + w.0) (within w.0 w.1) w.2)

    pub kept_distant : Every (λ (x : Candidate). Amount x.distance_m) (kept_at (sheet_of s c) i)
    unfolding candidate_of
    kept_distant = each (λ (x : Candidate). Amount x.distance_m) (λ k g t. finite_amount _ (measured s c ok i h k g).distance_m)

    kept_scored : Every ScoreAmount (kept_at (sheet_of s c) i)
    kept_scored = each ScoreAmount (λ k g t. passing_score set point (spot k) (weighed s c ok) (measured s c ok i h k g) t)

    pub kept_on_sheet : Every (OnSheet (sheet_of s c) c) (kept_at (sheet_of s c) i)
    kept_on_sheet = each (OnSheet (sheet_of s c) c) (λ k g t. on_sheet s c ok i h k g)

    pub kept_rise : NumbersRise (kept_at (sheet_of s c) i)
    kept_rise = let z : rows_before s i + 0 ≡ rows_before s i = omega arith in subst NumbersRise (sym kept_are) (rw z at (run_rises (row_count s i) 0 (omega arith)))

    pub kept_measured : row_count s i ≤ most_measured → Measured (map by_number (kept_at (sheet_of s c) i))
    kept_measured few =
        let all = kept_at (sheet_of s c) i in
        let short = filtered_few (candidate set point) (tabulate (row_count s i) (rows_before s i) spot) in
        record {
          few = omega (arith, length-map all by_number, ap length kept_are, length_tab (row_count s i) (rows_before s i) spot);
          amounts = every_map (λ (x : code.Candidate). Amount x.score × Amount x.distance_m) by_number all (λ x m. (kept_scored x m, kept_distant x m));
        }

-- ---- in order

-- those of zs go into ys alike
in_step : (ys zs : List Candidate) → Every (λ (y : Candidate). Every (λ (z : Candidate). y.road.number < z.road.number) zs) ys → NumbersRise zs
    → fold (λ us x. insert lower x us) (map by_number ys) (map by_number zs) ≡ map by_number (fold (λ us x. insert better x us) ys zs)
unfolding fold
in_step ys [] f r = refl
in_step ys (z ∷ zs) f r =
    let one : insert lower (by_number z) (map by_number ys) ≡ map by_number (insert better z ys) = sym (map_insert by_number better lower z ys (λ y m. by_score z y (omega (arith, f y m z here)))) in
    let later : Every (λ (y : Candidate). Every (λ (u : Candidate). y.road.number < u.road.number) zs) (insert better z ys) =
    λ y m. elim (in_insert better z ys m) [ inl e ↦ rw e r.0 | inr k ↦ λ u n. f y k u (Memᴰ.tail n) ] in
    ap (λ (us : List code.Candidate). fold (λ us x. insert lower x us) us (map by_number zs)) one ∙ in_step (insert better z ys) zs later r.1

-- sorted by score alone
pub by_score_alone : (xs : List Candidate) → NumbersRise xs → sort lower (map by_number xs) ≡ map by_number (sort better xs)
unfolding sort
by_score_alone xs r = in_step [] xs (every_none _) r
