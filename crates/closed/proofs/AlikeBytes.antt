-- Byte sequences that are alike hold sheets that are alike: each part of a sheet is a function of its section, and a section's length gives its count.
use Prim.Native.Nat.{ℕ, ◌+◌, ◌*◌, ◌<◌}
use mathlib.Core.Path.{◌≡◌, sym, ap, ◌∙◌}
use mathlib.Core.List.{List}
use native.Mathlib.Nat.{eq_of_mul-eq-mul_right}
use native.Mathlib.Omega.{arith}
use lib.ListN.{length}
use Rattle.model.specs.declared.Counts.{Counts}
use Rattle.model.specs.Lists.{tabulate}
use Rattle.model.specs.Layout.{counts_of, points_at, distances_at, goal_width, road_bytes}
use Rattle.model.specs.Judge.{WellFormed}
use Rattle.model.specs.Sheet.{settings_of, measured_point, road_of, goal_of, sheet_of, parsed, no_road, road_at}
use Rattle.model.proofs.Members.{length_tab, getD_table}
use Rattle.model.proofs.Sections.{section_length}
use Rattle.closed.specs.Closed.{is_closed, Agree, Alike}
use Rattle.closed.proofs.AlikeSheets.{is_open, AgreeSheets, AlikeSheets}

-- ---- one sheet

module _ (s : List ℕ) where
  -- the roads, from their bytes
  roads_count : length (parsed s).roads ≡ (counts_of s).e
  unfolding sheet_of
  roads_count = length_tab (counts_of s).e 0 (λ r. road_of (road_bytes s (counts_of s) r) r)

  road_is : (i : ℕ) → i < (counts_of s).e → road_at (parsed s) i ≡ road_of (road_bytes s (counts_of s) i) i
  unfolding sheet_of
  road_is i h = getD_table (counts_of s).e (λ r. road_of (road_bytes s (counts_of s) r) r) i no_road h

-- ---- two sheets

roads_agree : (x y : List ℕ) → Agree is_closed x y → AgreeSheets (parsed x) (parsed y)
roads_agree x y h i m o =
    let below : i < (counts_of x).e = omega (arith, roads_count x) in
    let k = h i below o in
    road_is x i below ∙ ap (λ (b : List ℕ). road_of b i) k.1 ∙ sym (road_is y i k.0)

module _ (x y : List ℕ) (wx : WellFormed x (counts_of x)) (wy : WellFormed y (counts_of y)) (h : Alike x y) where
  -- the counts of points and of goal rows are equal
  points_eq : (counts_of x).p ≡ (counts_of y).p
  points_eq =
      let e : (counts_of x).p * 24 ≡ (counts_of y).p * 24 =
      sym (section_length x points_at ((counts_of x).p * 24) (omega (arith, wx.sound.whole)))
      ∙ ap length h.parts.points ∙ section_length y points_at ((counts_of y).p * 24) (omega (arith, wy.sound.whole)) in
      omega arith

  goals_eq : (counts_of x).g ≡ (counts_of y).g
  goals_eq =
      let e : size (counts_of x) ≡ size (counts_of y) =
      sym (section_length x (distances_at (counts_of x)) (size (counts_of x)) (omega (arith, wx.sound.whole)))
      ∙ ap length h.parts.distances ∙ section_length y (distances_at (counts_of y)) (size (counts_of y)) (omega (arith, wy.sound.whole)) in
      let n : ℕ = (counts_of y).n in
      let f : (n + n) * 8 + (counts_of x).g * goal_width n ≡ (n + n) * 8 + (counts_of y).g * goal_width n = sym (ap (λ (n : ℕ). (n + n) * 8 + (counts_of x).g * goal_width n) h.parts.nodes) ∙ e in
      eq_of_mul-eq-mul_right (goal_width n) (omega arith) (counts_of x).g (counts_of y).g (omega arith)
    where
      size : Counts → ℕ
      size c = (c.n + c.n) * 8 + c.g * goal_width c.n

  pub alike_sheets : AlikeSheets (parsed x) (parsed y)
  unfolding sheet_of is_open
  alike_sheets = record {
    kind = h.parts.kind;
    nodes = h.parts.nodes;
    settings = ap settings_of h.parts.settings;
    points = λ i. tabulate (points_eq i) 0 (measured_point (h.parts.points i) (h.parts.rows i));
    goals = λ i. tabulate (goals_eq i) 0 (goal_of (h.parts.distances i) (h.parts.nodes i));
    agree = roads_agree x y h.agree;
    order = h.order;
  }
