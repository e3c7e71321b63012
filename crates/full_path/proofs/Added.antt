-- One coverage more, in the areas as in the list that they stand for.
use Rattle.std.proofs.Common.{◌≡◌, ◌≢◌, ◌==◌, ℕ, zero, suc, ◌+◌, ◌≤◌, ◌<◌, List, [], ◌∷◌, ◌++◌, map, length, get_or, set, take, position, Some, None, refl, sym, ap, ◌∙◌, inl, inr, arith, length-take-le, get_or-take, get_or-set_same, get_or-set_other}
use Rattle.std.proofs.lemmas.Grind.{common_steps}
use Rattle.std.proofs.lemmas.List.{map-append, take_more_set}
use Rattle.std.proofs.lemmas.List.Quantifiers.{position-Some}
use Rattle.std.proofs.lemmas.List.Sums.{fails_before_first}
use Rattle.std.proofs.Math.Seq.{take-set-lt}
use Rattle.std.specs.Float.{nan}
use Rattle.std.specs.Float.Ieee.{Float}
use borrow.Author.Tests.{eq-eqb, ne_eqb}
use Rattle.model.specs.Numbers.{◌⊕◌}
use Rattle.model.specs.Sheet.{Sheet, road_at}
use Rattle.model.specs.Legs as legs
use Rattle.model.specs.Decode.{same_number, cover}
use Rattle.bounds.proofs.Choices.{same_or_other}
use Rattle.search.specs.Answers.{RoadNumbers}
use Rattle.full_path.specs.declared.EdgeCoverage.{EdgeCoverage}
use Rattle.full_path.specs.Left.{coverage_of, Numbered, paired}

-- the numbers in the front of an area
pub numbers_front : (e n : ℕ) (roads : List ℕ) → n ≤ length roads → RoadNumbers e n roads → RoadNumbers e (length (take n roads)) (take n roads)
numbers_front e n roads room below j h = let inside : j < n = omega (arith, length-take-le n roads room) in rw (get_or-take n roads j 0 inside) (below j inside)

-- ---- in two lists

-- the coverages that they stand for
abbrev covers : Sheet → List ℕ → List Float → List legs.EdgeCoverage
covers t roads metres = map (coverage_of t) (paired roads metres)

one_more : (roads : List ℕ) (metres : List Float) (k : EdgeCoverage) → length metres ≡ length roads → paired (roads ++ k.edge_idx ∷ []) (metres ++ k.coverage_m ∷ []) ≡ paired roads metres ++ k ∷ []
one_more [] [] k e = refl
one_more [] (m ∷ ms) k e = absurd (omega arith)
one_more (r ∷ rs) [] k e = absurd (omega arith)
one_more (r ∷ rs) (m ∷ ms) k e = ap (λ (ks : List EdgeCoverage). record { edge_idx = r; coverage_m = m } ∷ ks) (one_more rs ms k (omega arith))

module _ (t : Sheet) (e : ℕ) (own : Numbered t e) (k : EdgeCoverage) (known : k.edge_idx < e) where
  -- a road by its number
  same : (r : ℕ) → r ≡ k.edge_idx → (road_at t r).number ≡ (road_at t k.edge_idx).number
  same r is = ap (λ n. (road_at t n).number) is

  other : (r : ℕ) → r < e → r ≢ k.edge_idx → (road_at t r).number ≢ (road_at t k.edge_idx).number
  other r h not_is is = not_is (sym (own r h) ∙ is ∙ own k.edge_idx known)

  -- entry i is the first one of its road
  cover_here : (roads : List ℕ) (metres : List Float) (i : ℕ) → length metres ≡ length roads → RoadNumbers e (length roads) roads → i < length roads → get_or roads i 0 ≡ k.edge_idx → ((j : ℕ) → j < i → get_or roads j 0 ≢ k.edge_idx)
      → covers t roads (set metres i (get_or metres i nan ⊕ k.coverage_m)) ≡ cover (covers t roads metres) (coverage_of t k)
  unfolding cover same_number
  cover_here [] ms i size below h is others = absurd (omega arith)
  cover_here (r ∷ rs) [] i size below h is others = absurd (omega arith)
  cover_here (r ∷ rs) (m ∷ ms) zero size below h is others = rw (eq-eqb _ _ (same r is))
  cover_here (r ∷ rs) (m ∷ ms) (suc i) size below h is others =
      rw (ne_eqb _ _ (other r (below 0 (omega arith)) (others 0 (omega arith))))
      (ap (λ (ks : List legs.EdgeCoverage). coverage_of t record { edge_idx = r; coverage_m = m } ∷ ks) (cover_here rs ms i (omega arith) (λ j l. below (suc j) (omega arith)) (omega arith) is (λ j l. others (suc j) (omega arith))))

  -- no entry is of it
  cover_new : (roads : List ℕ) (metres : List Float) → RoadNumbers e (length roads) roads → ((j : ℕ) → j < length roads → get_or roads j 0 ≢ k.edge_idx) → covers t roads metres ++ coverage_of t k ∷ [] ≡ cover (covers t roads metres) (coverage_of t k)
  unfolding cover same_number
  cover_new [] ms below others = refl
  cover_new (r ∷ rs) [] below others = refl
  cover_new (r ∷ rs) (m ∷ ms) below others =
      rw (ne_eqb _ _ (other r (below 0 (omega arith)) (others 0 (omega arith))))
      (ap (λ (ks : List legs.EdgeCoverage). coverage_of t record { edge_idx = r; coverage_m = m } ∷ ks) (cover_new rs ms (λ j l. below (suc j) (omega arith)) (λ j l. others (suc j) (omega arith))))

-- ---- in the front of the areas

module _ (roads : List ℕ) (metres : List Float) (n : ℕ) (k : EdgeCoverage) (room : n < length roads) (more_room : n < length metres) where
  pub below_more : (e : ℕ) → RoadNumbers e n roads → k.edge_idx < e → RoadNumbers e (n + 1) (set roads n k.edge_idx)
  below_more e below known j h = elim (same_or_other j n) [
    | inl is ↦ rw (is, get_or-set_same roads n k.edge_idx 0 room) known
    | inr other ↦ rw (get_or-set_other roads n j k.edge_idx 0 other) (below j (omega arith))
  ]

  front : length (take n roads) ≡ n
  front = length-take-le n roads (omega arith)

  metres_front : length (take n metres) ≡ n
  metres_front = length-take-le n metres (omega arith)

  pub listed : (t : Sheet) → covers t (take (n + 1) (set roads n k.edge_idx)) (take (n + 1) (set metres n k.coverage_m)) ≡ covers t (take n roads) (take n metres) ++ coverage_of t k ∷ []
  listed t =
      rw (take_more_set roads n k.edge_idx room, take_more_set metres n k.coverage_m more_room, one_more (take n roads) (take n metres) k (metres_front ∙ sym front))
      (map-append (coverage_of t) (paired (take n roads) (take n metres)) (k ∷ []))

  module _ (t : Sheet) (e : ℕ) (own : Numbered t e) (below : RoadNumbers e n roads) (known : k.edge_idx < e) where
    below_front : RoadNumbers e (length (take n roads)) (take n roads)
    below_front = numbers_front e n roads (omega arith) below

    pub summed : (at : ℕ) → position (λ r. r == k.edge_idx) (take n roads) ≡ Some at
        → covers t (take n roads) (take n (set metres at (get_or metres at nan ⊕ k.coverage_m))) ≡ cover (covers t (take n roads) (take n metres)) (coverage_of t k)
    summed at found =
        let first = position-Some {X = ℕ} (λ r. r == k.edge_idx) (take n roads) at 0 found in
        let h : at < n = omega (arith, first.0, front) in
        let is : get_or (take n roads) at 0 ≡ k.edge_idx = grind (arith, common_steps, first.1) in
        let others : (j : ℕ) → j < at → get_or (take n roads) j 0 ≢ k.edge_idx = λ j l. grind (arith, common_steps, first.2 j l) in
        rw (take-set-lt n metres at (get_or metres at nan ⊕ k.coverage_m) h, ← get_or-take n metres at nan h)
        (cover_here t e own k known (take n roads) (take n metres) at (metres_front ∙ sym front) below_front first.0 is others)

    pub summed_new : position (λ r. r == k.edge_idx) (take n roads) ≡ None
        → covers t (take (n + 1) (set roads n k.edge_idx)) (take (n + 1) (set metres n k.coverage_m)) ≡ cover (covers t (take n roads) (take n metres)) (coverage_of t k)
    summed_new none =
        let others : (j : ℕ) → j < length (take n roads) → get_or (take n roads) j 0 ≢ k.edge_idx = λ j l. grind (arith, common_steps, none, fails_before_first (λ r. r == k.edge_idx) (take n roads) j 0) in
        listed t ∙ cover_new t e own k known (take n roads) (take n metres) below_front others
