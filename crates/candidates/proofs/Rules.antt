-- The two rules of the points, and what they mean for the whole decode.
use Prim.Native.Nat.{ℕ, zero, suc, ◌+◌, ◌<◌}
use mathlib.Core.Path.{◌≡◌, refl, sym, ap, ◌∙◌}
use mathlib.Core.Bool.{Bool, true, false, cond}
use mathlib.Core.Option.{Option, none, some}
use mathlib.Core.List.{List, [], ◌∷◌, map}
use native.Mathlib.Nat.{add-zero, zero-lt-suc}
use native.Mathlib.Omega.{arith}
use lib.Ieee.{le}
use Rattle.std.specs.Prelude.{Ok}
use Rattle.model.specs.declared.Counts.{Counts}
use Rattle.model.specs.Lists.{maybe, tabulate}
use Rattle.model.specs.Layout.{points_bytes, rows_bytes}
use Rattle.model.specs.Sheet.{MeasuredPoint, Sheet, measured_point, sheet_of}
use Rattle.model.specs.View.{View, view, projected_point}
use Rattle.model.specs.Search.{Search}
use Rattle.model.specs.Candidates.{Candidate, find_candidates, closest_point}
use Rattle.model.specs.Decode.{refused, Outcome, first_empty, require_close_candidate, decode_legs, decode_points}
use Rattle.model.proofs.Parsed.{measured_point_is}
use Rattle.sheet.proofs.Parts.{map_tab}
use Rattle.candidates.specs.Found.{no_point, candidates_at}
use Rattle.candidates.specs.Points.{candidates_of, no_candidate_of, close_enough, judge_points, points_of, after_points}

-- ---- the points

choice : (b : Bool) (i : ℕ) (o : Outcome) → cond b o (refused 9 i 0) ≡ after_points (cond b (Ok tt) (no_candidate_of i)) o
unfolding after_points
choice true i o = refl
choice false i o = refl

-- what it means for the whole decode
pub decode_after : (v : View) (search : Search) (cs : List (List Candidate)) → decode_points v search cs ≡ after_points (judge_points v.settings.max_candidate_distance_m cs) (decode_legs v search cs)
unfolding decode_points judge_points after_points decode_legs maybe require_close_candidate close_enough
decode_after v search [] = refl
decode_after v search (xs ∷ rest) = go (first_empty 0 (xs ∷ rest))
  where
    go : (o : Option ℕ) → maybe o (require_close_candidate v search (xs ∷ rest)) (λ i. refused 9 i 0) ≡ after_points (maybe o (close_enough v.settings.max_candidate_distance_m (xs ∷ rest)) no_candidate_of) (decode_legs v search (xs ∷ rest))
    go none = choice (le (closest_point (xs ∷ rest)).distance v.settings.max_candidate_distance_m) _ _
    go (some i) = refl

-- the same of a sheet
pub decode_sheet_after : (t : Sheet) (search : Search) → decode_points (view t) search (candidates_of t) ≡ after_points (points_of t) (decode_legs (view t) search (candidates_of t))
unfolding points_of view
decode_sheet_after t search = decode_after (view t) search (candidates_of t)

-- ---- the candidates of all points, by number

tab_same : {A : Type 0} (f g : ℕ → A) (n b : ℕ) → ((k : ℕ) → k < n → f (b + k) ≡ g (b + k)) → tabulate n b f ≡ tabulate n b g
unfolding tabulate
tab_same f g zero b e = refl
tab_same {A} f g (suc n) b e =
    let one : f b ≡ g b = rw (add-zero b) at (e 0 (zero-lt-suc n)) in
    ap (λ (x : A). x ∷ tabulate n (b + 1) f) one ∙ ap (λ (xs : List A). g b ∷ xs) (tab_same f g n (b + 1) (λ k h. let j : b + suc k ≡ b + 1 + k = omega arith in rw j at (e (suc k) (omega arith))))

module _ (s : List ℕ) (c : Counts) where
  points_are : (sheet_of s c).points ≡ tabulate c.p 0 (measured_point (points_bytes s c) (rows_bytes s c))
  unfolding sheet_of
  points_are = refl

  -- the candidates of all points, by number
  pub candidates_are : candidates_of (sheet_of s c) ≡ tabulate c.p 0 (candidates_at (sheet_of s c))
  unfolding candidates_of view candidates_at
  candidates_are =
      let t = sheet_of s c in
      let stop = measured_point (points_bytes s c) (rows_bytes s c) in
      ap (λ (xs : List MeasuredPoint). map (find_candidates t.settings) (map (projected_point t) xs)) points_are
      ∙ ap (map (find_candidates t.settings)) (map_tab (projected_point t) stop c.p 0)
      ∙ map_tab (find_candidates t.settings) (λ k. projected_point t (stop k)) c.p 0
      ∙ tab_same (λ k. find_candidates t.settings (projected_point t (stop k))) (candidates_at t) c.p 0 (λ k h. ap (λ (x : MeasuredPoint). find_candidates t.settings (projected_point t x)) (sym (measured_point_is s c (0 + k) (omega arith) no_point)))

  pub no_points : c.p ≡ 0 → Ok tt ≡ points_of (sheet_of s c)
  unfolding points_of judge_points tabulate
  no_points e =
      let none : candidates_of (sheet_of s c) ≡ [] = candidates_are ∙ rw e in
      rw none
