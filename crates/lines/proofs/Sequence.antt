-- The definition of a line leg by leg: legs and candidates by the numbers of their points.
use Prim.Native.Nat.{ℕ, zero, suc, ◌+◌, ◌-◌, ◌≤◌, ◌<◌}
use mathlib.Core.Path.{◌≡◌, refl, sym, ap, ◌∙◌}
use mathlib.Core.List.{List, ◌∷◌, map}
use native.Mathlib.Numerals.{add-one}
use native.Mathlib.Omega.{arith}
use lib.ListN.{length, get_or, drop, length-map, drop_of_length-le}
use lib.Seq.{drop-cons}
use Rattle.model.specs.declared.Counts.{Counts}
use Rattle.model.specs.Lists.{tabulate, init}
use Rattle.model.specs.Sheet.{MeasuredPoint, Sheet, sheet_of}
use Rattle.model.specs.View.{Leg, leg_of, view}
use Rattle.model.specs.Search.{bounded_astar}
use Rattle.model.specs.Decode.{FullPath, no_path_yet, extended, path_of_leg, Outcome, with_primary, after_leg, decode_line, decode_point_along_line}
use Rattle.model.proofs.Parsed.{point_count}
use Rattle.sheet.proofs.Parts.{map_tab}
use Rattle.candidates.specs.Found.{no_point, point_at, candidates_at}
use Rattle.candidates.specs.Points.{candidates_of}
use Rattle.candidates.proofs.Rules.{candidates_are}
use Rattle.legs.specs.Found.{middle_search_at}
use Rattle.lines.specs.Legs.{leg_end_from, line_outcome, point_along_line_outcome}

-- ---- tables

module _ {A : Type 0} where
  tab_drop : (xs : List A) (d : A) (n i : ℕ) → i + n ≡ length xs → tabulate n i (λ k. get_or xs k d) ≡ drop i xs
  unfolding tabulate
  tab_drop xs d zero i e = sym (drop_of_length-le xs {i = i} (omega arith))
  tab_drop xs d (suc n) i e = ap (λ (ys : List A). get_or xs i d ∷ ys) (tab_drop xs d n (i + 1) (omega arith) ∙ rw (add-one i)) ∙ sym (drop-cons xs i d (omega arith))

  front_some : (n i : ℕ) (f : ℕ → A) → init (tabulate (suc n) i f) ≡ tabulate n i f
  unfolding tabulate init
  front_some zero i f = refl
  front_some (suc n) i f = ap (λ (ys : List A). f i ∷ ys) (front_some n (i + 1) f)

  front_tab : (n i : ℕ) (f : ℕ → A) → init (tabulate n i f) ≡ tabulate (n - 1) i f
  unfolding tabulate init
  front_tab zero i f = refl
  front_tab (suc n) i f = let e : n ≡ suc n - 1 = omega arith in front_some n i f ∙ ap (λ (m : ℕ). tabulate m i f) e

  drop_tab : (n i : ℕ) (f : ℕ → A) → drop 1 (tabulate n i f) ≡ tabulate (n - 1) (i + 1) f
  unfolding tabulate
  drop_tab zero i f = refl
  drop_tab (suc n) i f = let e : n ≡ suc n - 1 = omega arith in ap (λ (m : ℕ). tabulate m (i + 1) f) e

-- ---- the legs of a sheet

module _ (s : List ℕ) (c : Counts) where
  abbrev t : Sheet
  t = sheet_of s c

  abbrev pub leg_from : ℕ → Leg
  leg_from i = leg_of (sheet_of s c) (point_at (sheet_of s c) i)

  pub legs_are : (view (sheet_of s c)).legs ≡ tabulate (c.p - 1) 0 leg_from
  unfolding view
  legs_are =
      let stops : t.points ≡ tabulate c.p 0 (point_at t) = sym (tab_drop t.points no_point c.p 0 (omega (arith, point_count s c))) in
      ap (λ (xs : List MeasuredPoint). map (leg_of t) (init xs)) stops
      ∙ ap (map (leg_of t)) (front_tab c.p 0 (point_at t))
      ∙ map_tab (leg_of t) (point_at t) (c.p - 1) 0

  -- the candidates of the points behind the first
  behind_first : drop 1 (candidates_of t) ≡ tabulate (c.p - 1) 1 (candidates_at t)
  behind_first = ap (drop 1) (candidates_are s c) ∙ drop_tab c.p 0 (candidates_at t)

  points_long : length (view t).points ≡ c.p
  unfolding view
  points_long = length-map t.points _ ∙ point_count s c

  module _ (slots : ℕ) where
    -- a line from leg i on, with the path k before it
    unfoldable pub from_leg : ℕ → FullPath → Outcome
    from_leg i k = decode_line (view (sheet_of s c)) (bounded_astar slots) i k (candidates_at (sheet_of s c) i) (tabulate (c.p - 1 - i) i leg_from) (tabulate (c.p - (i + 1)) (i + 1) (candidates_at (sheet_of s c)))

    pub line_start : from_leg 0 no_path_yet ≡ line_outcome (sheet_of s c) slots
    unfolding from_leg
    line_start =
        let all : c.p - 1 - 0 ≡ c.p - 1 = omega arith in
        ap (λ (m : ℕ). decode_line (view t) (bounded_astar slots) 0 no_path_yet (candidates_at t 0) (tabulate m 0 leg_from) (tabulate (c.p - 1) 1 (candidates_at t))) all
        ∙ ap (λ (ls : List Leg). decode_line (view t) (bounded_astar slots) 0 no_path_yet (candidates_at t 0) ls (tabulate (c.p - 1) 1 (candidates_at t))) (sym legs_are)
        ∙ ap (decode_line (view t) (bounded_astar slots) 0 no_path_yet (candidates_at t 0) (view t).legs) (sym behind_first)

    pub line_step : (i : ℕ) (k : FullPath) → i + 1 < c.p → from_leg i k ≡ after_leg i (leg_end_from (sheet_of s c) slots i) (λ r. from_leg (i + 1) (extended i k (leg_from i) r))
    unfolding from_leg decode_line tabulate leg_end_from middle_search_at
    line_step i k h =
        let legs : c.p - 1 - i ≡ suc (c.p - 1 - (i + 1)) = omega arith in
        let rest : c.p - (i + 1) ≡ suc (c.p - (i + 1 + 1)) = omega arith in
        rw (legs, rest)

    pub line_end : (i : ℕ) (k : FullPath) → c.p ≤ i + 1 → from_leg i k ≡ with_primary c.p k
    unfolding from_leg decode_line tabulate
    line_end i k h =
        let none : c.p - 1 - i ≡ 0 = omega arith in
        rw (none, points_long)

    pub point_is : c.p ≡ 2 → point_along_line_outcome (sheet_of s c) slots ≡ after_leg 0 (leg_end_from (sheet_of s c) slots 0) (λ r. with_primary c.p (path_of_leg (leg_from 0) r))
    unfolding decode_point_along_line tabulate leg_end_from middle_search_at
    point_is two = rw (legs_are, behind_first, two)
