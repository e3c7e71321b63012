-- A byte sequence that the judge lets pass parses to a sheet that is `Formed`: each fact comes from the judge's verdict on the bytes where the part was read.
use Prim.Native.Nat.{ℕ, ◌+◌, ◌-◌, ◌≤◌, ◌<◌}
use mathlib.Core.Path.{◌≡◌, refl, sym, ap, subst, ◌∙◌}
use mathlib.Core.Bool.{Bool, true, false}
use mathlib.Core.List.Memᴰ
use mathlib.Core.List.{List, []}
use native.Mathlib.Omega.{arith}
use lib.ListN.{length, get_or-eq_default}
use lib.Dec.{ltb}
use borrow.Author.Tests.{ltb-true, ltb-false}
use Rattle.model.specs.declared.Counts.{Counts}
use Rattle.model.specs.declared.Row.{Row}
use Rattle.model.specs.declared.Road.{Road}
use Rattle.model.specs.Judge.{Fine}
use Rattle.model.specs.Lists.{In}
use Rattle.model.specs.Bytes.{u64_at, f64_at}
use Rattle.model.specs.Layout.{counts_of, road_bytes, points_bytes, rows_bytes}
use Rattle.model.specs.Table.{most_f64}
use Rattle.model.specs.Judge.{judged, source_of, start_of, entry_of, row_count, rows_before, WellFormed}
use Rattle.model.specs.Sheet.{MeasuredPoint, settings_of, row_of, measured_point, road_of, part, sheet_of, road_at, list_at, parsed}
use Rattle.model.proofs.Members.{in_tab}
use Rattle.model.proofs.Judging.{well_formed}
use Rattle.model.proofs.Fields.{settings_most, length_most, source_below, target_below, entry_below, row_road_below, row_distance_most, row_along_most, row_line_most}
use Rattle.model.proofs.Listed.{start_most, part_source}
use Rattle.model.proofs.RowSums.{rows_within}
use Rattle.model.proofs.Parsed.{node_count, road_count, list_count, road_is, number_is, metres_is, source_is, target_is, list_is, rows_are, row_road_is, row_distance_is, row_along_is, row_line_is, setting_is}
use Rattle.bounds.specs.Amounts.{Finite}
use Rattle.bounds.specs.Formed.{RoadFacts, RowFacts, Formed}
use Rattle.bounds.proofs.AmountLaws.{bits_finite}

-- an f64 that the judge lets pass is finite
finite_at : (s : List ℕ) (at : ℕ) → u64_at s at ≤ most_f64 → Finite (f64_at s at)
unfolding f64_at
finite_at s at h = bits_finite (u64_at s at) h

module _ (s : List ℕ) (c : Counts) (w : WellFormed s c) where
  -- ---- roads

  road_facts : (r : ℕ) → r < c.e → RoadFacts (sheet_of s c) (road_at (sheet_of s c) r)
  unfolding source_of
  road_facts r h = record {
    source = rw (node_count s c, source_is s c r h) (source_below s c w.sound r h);
    target = rw (node_count s c, target_is s c r h) (target_below s c w.sound r h);
    length_m = rw (metres_is s c r h) (finite_at s _ (length_most s c w.sound r h));
  }

  in_roads : (r : Road) → In r (sheet_of s c).roads → (k : ℕ) × (k < c.e) × (road_at (sheet_of s c) k ≡ r)
  unfolding sheet_of
  in_roads r m = let k = in_tab c.e 0 (λ i. road_of (road_bytes s c i) i) m in
      (k.0, k.1, road_is s c k.0 k.1 ∙ ap (λ (i : ℕ). road_of (road_bytes s c i) i) {x = k.0} {y = 0 + k.0} (omega arith) ∙ k.2)

  -- ---- lists

  in_part_facts : (v i : ℕ) → v < c.n → In i (part s c v) → (i < c.e) × (source_of s c i ≡ v)
  unfolding part
  in_part_facts v i h m =
      let k = in_tab (start_of s c (v + 1) - start_of s c v) (start_of s c v) (entry_of s c) m in
      let j = start_of s c v + k.0 in
      let under : j < c.e = omega (arith, k.1, start_most s c w.sound w.lists (v + 1) (omega arith)) in (
        subst (λ (r : ℕ). r < c.e) k.2 (entry_below s c w.sound j under),
        subst (λ (r : ℕ). source_of s c r ≡ v) k.2 (part_source s c w.sound w.lists v j h (omega arith) (omega (arith, k.1))),
      )

  in_list : (v i : ℕ) → In i (list_at (sheet_of s c) v) → (i < length (sheet_of s c).roads) × ((road_at (sheet_of s c) i).source ≡ v)
  unfolding source_of
  in_list v i m = go (ltb v c.n) refl
    where
      go : (b : Bool) → ltb v c.n ≡ b → (i < length (sheet_of s c).roads) × ((road_at (sheet_of s c) i).source ≡ v)
      go true e =
          let h : v < c.n = ltb-true v c.n e in
          let k = in_part_facts v i h (subst (In i) (list_is s c v h) m) in
          (rw (road_count s c) k.0, source_is s c i k.0 ∙ k.1)
      go false e =
          let h : c.n ≤ v = ltb-false v c.n e in
          absurd (Memᴰ.not-nil (subst (In i) (get_or-eq_default (sheet_of s c).lists [] (omega (arith, list_count s c))) m))

  -- ---- rows

  row_facts : (k : ℕ) → k < c.m → RowFacts (sheet_of s c) (row_of (rows_bytes s c) k)
  row_facts k h = record {
    road = rw (road_count s c, row_road_is s c k h) (row_road_below s c w.sound k h);
    distance_m = rw (row_distance_is s c k h) (finite_at s _ (row_distance_most s c w.sound k h));
    along_m = rw (row_along_is s c k h) (finite_at s _ (row_along_most s c w.sound k h));
    length_m = rw (row_line_is s c k h) (finite_at s _ (row_line_most s c w.sound k h));
  }

  point_facts : (i : ℕ) → i < c.p → (x : Row) → In x (measured_point (points_bytes s c) (rows_bytes s c) i).rows → RowFacts (sheet_of s c) x
  point_facts i h x m =
      let k = in_tab (row_count s i) (rows_before s i) (row_of (rows_bytes s c)) (subst (In x) (rows_are s c i h) m) in
      subst (RowFacts (sheet_of s c)) k.2 (row_facts (rows_before s i + k.0) (omega (arith, k.1, rows_within s c w.rows i h)))

  in_points : (p : MeasuredPoint) → In p (sheet_of s c).points → (x : Row) → In x p.rows → RowFacts (sheet_of s c) x
  unfolding sheet_of
  in_points p m x n =
      let k = in_tab c.p 0 (measured_point (points_bytes s c) (rows_bytes s c)) m in
      point_facts (0 + k.0) (omega (arith, k.1)) x (subst (λ (q : MeasuredPoint). In x q.rows) (sym k.2) n)

  -- ---- settings

  slip_finite : Finite (sheet_of s c).settings.slip_road_cost_penalty
  unfolding sheet_of settings_of
  slip_finite = rw (setting_is s c 80 (omega arith)) (finite_at s _ (settings_most s c w.sound 10 (omega arith)))

  access_finite : Finite (sheet_of s c).settings.access_road_cost_penalty
  unfolding sheet_of settings_of
  access_finite = rw (setting_is s c 88 (omega arith)) (finite_at s _ (settings_most s c w.sound 11 (omega arith)))

  pub well_formed_formed : Formed (sheet_of s c)
  well_formed_formed = record {
    parts = list_count s c ∙ sym (node_count s c);
    roads = λ r m. let k = in_roads r m in subst (RoadFacts (sheet_of s c)) k.2 (road_facts k.0 k.1);
    numbered = λ i h. number_is s c i (omega (arith, road_count s c));
    lists = in_list;
    rows = in_points;
    slip = slip_finite;
    access = access_finite;
  }

-- the judge's verdict gives all that the laws of this crate ask of a sheet
pub formed : (s : List ℕ) → judged s ≡ Fine → Formed (parsed s)
formed s e = well_formed_formed s (counts_of s) (well_formed s e)
