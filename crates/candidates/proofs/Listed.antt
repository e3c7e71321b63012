-- The best of a point's rows are those that a leg tries.
use Prim.Native.Nat.{ℕ, suc, ◌≤◌, ◌<◌, min}
use mathlib.Core.Path.{◌≡◌, refl, sym, ap, ◌∙◌}
use mathlib.Core.List.Memᴰ
use mathlib.Core.List.{List, [], ◌∷◌, map}
use native.Mathlib.Omega.{arith}
use borrow.Author.Tests.{lt-ltb, le-ltb}
use lib.Dec.{ltb}
use Rattle.std.specs.Prelude.{Option, Some, None, is_some}
use Rattle.std.specs.Iterator.{YieldsFirst}
use lib.ListN.{length, take, get_or, length-map, length-take}
use Rattle.model.specs.declared.Counts.{Counts}
use Rattle.model.specs.declared.Road.{Road}
use Rattle.model.specs.Lists.{sort}
use Rattle.model.specs.Judge.{WellFormed}
use Rattle.model.specs.Sheet.{Sheet, sheet_of}
use Rattle.model.specs.Legs.{most_tried}
use Rattle.model.specs.Candidates.{Candidate, better, find_candidates}
use Rattle.model.proofs.Members.{here, get_d_map, map_take, in_getD, in_sort, in_take, Every}
use Rattle.candidates.specs.declared.candidate.Candidate as code
use Rattle.candidates.specs.Found.{kept_at, passing_at, candidates_at, no_candidate, OnSheet, by_number, lower, on, no_item, item_at, tried_at, at_road, held, Rising, CandidatesOf}
use Rattle.candidates.proofs.Inserting.{length_sort, take_within}
use Rattle.candidates.proofs.Kept.{kept_on_sheet, kept_rise, by_score_alone}

-- the candidates are the first of those that pass
pub candidates_cut : (t : Sheet) (i : ℕ) → candidates_at t i ≡ take t.settings.max_candidates (passing_at t i)
unfolding candidates_at kept_at find_candidates
candidates_cut t i = refl

-- as many of them as there may be
counted : (t : Sheet) (i : ℕ) → length (candidates_at t i) ≡ min t.settings.max_candidates (length (kept_at t i))
counted t i = ap length (candidates_cut t i) ∙ length-take t.settings.max_candidates (passing_at t i) ∙ ap (min t.settings.max_candidates) (length_sort better (kept_at t i))

module _ (t : Sheet) (i : ℕ) where
  pub none_wanted : t.settings.max_candidates ≤ 0 → ltb 0 t.settings.max_candidates ≡ ltb 0 (length (candidates_at t i))
  none_wanted h = le-ltb _ _ h ∙ sym (le-ltb _ _ (omega (arith, counted t i)))

  -- where the first of the rows that pass is asked for
  pub first_asked : (r : Option code.Candidate) (rest : List code.Candidate) → 0 < t.settings.max_candidates → YieldsFirst (λ (xs : List code.Candidate). xs) (map by_number (kept_at t i)) r rest
      → is_some r ≡ ltb 0 (length (candidates_at t i))
  first_asked None rest h e = let long : length (kept_at t i) ≡ 0 = sym (length-map (kept_at t i) by_number) ∙ ap length e.0 in sym (le-ltb _ _ (omega (arith, counted t i)))
  first_asked (Some x) rest h e = let long : length (kept_at t i) ≡ suc (length rest) = sym (length-map (kept_at t i) by_number) ∙ ap length e in sym (lt-ltb _ _ (omega (arith, counted t i)))

-- the candidate that stands for x is x
stand_for : (t : Sheet) (c : Counts) (xs : List Candidate) → Every (OnSheet t c) xs → map (at_road t) (map by_number xs) ≡ xs
stand_for t c [] ps = refl
stand_for t c (x ∷ xs) ps = rw (stand_for t c xs (λ z m. ps z (Memᴰ.tail m))) (ap (λ (r : Road). on r (by_number x) ∷ xs) (sym (ps x here).road))

module _ (s : List ℕ) (c : Counts) (i : ℕ) (h : i < c.p) (ok : WellFormed s c) where
  abbrev t : Sheet
  t = sheet_of s c

  pub tried_on_sheet : Every (OnSheet t c) (tried_at t i)
  tried_on_sheet x m = kept_on_sheet s c i h ok x (in_sort better (kept_at t i) (in_take t.settings.max_candidates (passing_at t i) (rw candidates_cut at (in_take 10 (candidates_at t i) m))))

  -- the best of the rows, by score alone
  pub best_are : (most : ℕ) → take most (sort lower (map by_number (kept_at t i))) ≡ map by_number (take most (passing_at t i))
  best_are most = ap (take most) (by_score_alone (kept_at t i) (kept_rise s c i h ok)) ∙ sym (map_take by_number most (passing_at t i))

  pub listed : (most : ℕ) (xs : List code.Candidate) → most ≡ min t.settings.max_candidates most_tried → xs ≡ take most (sort lower (map by_number (kept_at t i))) → Rising xs → CandidatesOf t c i xs
  unfolding held
  listed most xs m e r =
      let ys = tried_at t i in
      let few : most ≡ min most_tried t.settings.max_candidates = omega arith in
      let is : xs ≡ map by_number ys = e ∙ best_are most ∙ ap (λ (n : ℕ). map by_number (take n (passing_at t i))) few ∙ ap (map by_number) (sym (ap (take 10) (candidates_cut t i) ∙ take_within 10 t.settings.max_candidates (passing_at t i))) in
      let long : length xs ≡ length ys = ap length is ∙ length-map ys by_number in
      record {
        are = ap (map (at_road t)) is ∙ stand_for t c ys tried_on_sheet;
        ready = record {
          few = omega (arith, long, length-take 10 (candidates_at t i));
          named = λ k l.
              let there : item_at xs k ≡ by_number (get_or ys k no_candidate) = ap (λ (zs : List code.Candidate). item_at zs k) is ∙ get_d_map by_number ys k no_candidate no_item (omega (arith, long)) in
              rw there (tried_on_sheet _ (in_getD ys k no_candidate (omega (arith, long)))).number;
          rising = r;
        };
      }
