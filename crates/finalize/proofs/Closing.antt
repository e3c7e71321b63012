-- The answer of a reference from how its legs end: its primary road, what a path says of the numbers written, and the walks at both ends.
use Rattle.std.proofs.Common.{ℕ, ◌≡◌, ◌+◌, ◌-◌, ◌*◌, ◌≤◌, ◌<◌, List, length, map, get_or, take, Option, Some, None, Result, Ok, sym, ap, ◌∙◌, arith}
use Rattle.std.proofs.lemmas.List.{length-map}
use Rattle.std.proofs.Math.Nat.{add-mul}
use Rattle.std.proofs.Math.Seq.{length-take-le, get_or-take}
use Rattle.std.specs.Float.Ieee.{Float}
use mathlib.Core.List.Memᴰ
use Rattle.model.specs.declared.Counts.{Counts}
use Rattle.model.specs.declared.Road.{Road}
use Rattle.model.specs.declared.Settings.{Settings}
use Rattle.model.specs.declared.error.DecodeError.{DecodeError}
use Rattle.model.specs.Lists.{maybe}
use Rattle.model.specs.Sheet as definition
use Rattle.model.specs.View.{view}
use Rattle.model.specs.Search.{bounded_astar}
use Rattle.model.specs.Legs as legs
use Rattle.model.specs.Decode.{FullPath, Outcome, refused, matched, outcome, primary_edge, with_primary}
use Rattle.model.specs.Ends.{snap_cap_m, extend_ends, finalize_path}
use Rattle.model.specs.Call.{most_entries}
use Rattle.model.proofs.Members.{in_getD}
use Rattle.model.proofs.Parsed.{road_count}
use Rattle.bounds.specs.Formed.{Formed}
use Rattle.bounds.proofs.FormedProof.{well_formed_formed}
use Rattle.bounds.proofs.PathLaws.{InSheet, sheet_roads}
use Rattle.bounds.proofs.PathRoads.{path_roads}
use Rattle.bounds.proofs.EndBound.{own_road}
use Rattle.bounds.proofs.SomeRoad.{some_road}
use Rattle.sheet.specs.declared.Sheet.{Sheet}
use Rattle.sheet.specs.Contents.{contents}
use Rattle.search.specs.Answers.{RoadNumbers}
use Rattle.full_path.specs.declared.EdgeCoverage.{EdgeCoverage}
use Rattle.full_path.specs.declared.Coverages.{Coverages}
use Rattle.full_path.specs.Left.{coverage_of, coverages_at, paired, Covers, OnRoads, primary_of}
use Rattle.full_path.proofs.Added.{numbers_front}
use Rattle.lines.specs.declared.FullPath as code
use Rattle.lines.specs.Legs.{segment_as, road_numbers, PathWritten, PathStored, LegsWritten}

-- the legs end with a path x
module _ (t : definition.Sheet) (c : Counts) (o : Outcome) (ids : List ℕ) (cs : Coverages) {found : Result code.FullPath DecodeError} {x : code.FullPath} (is : found ≡ Ok x) (comes : LegsWritten t c o ids cs found) where
  abbrev LegsEnd : Type 0
  LegsEnd = (0 < c.p) × ((k : FullPath) × (o ≡ with_primary c.p k) × PathStored t c.e (c.p * (c.n + 1)) k ids cs x)

  pub legs_end : LegsEnd
  legs_end = rw is at comes

  abbrev pub path : FullPath
  path = legs_end.1.0

  abbrev pub stored : PathStored t c.e (c.p * (c.n + 1)) path ids cs x
  stored = legs_end.1.2

  -- room for the walks at both ends
  pub walks_fit : x.written + 4 * c.n ≤ most_entries c.p c.n
  walks_fit = omega (arith, stored.few_roads, add-mul c.p 4 (c.n + 1))

  -- the outcome, by the primary road that was found
  module _ {p : Option EdgeCoverage} (primary : primary_of t p ≡ primary_edge (coverages_at t cs)) where
    pub uncovered : p ≡ None → o ≡ refused 10 0 (c.p - 1)
    unfolding with_primary maybe
    uncovered none = legs_end.1.1 ∙ rw (← stored.coverages, ← primary, none)

    pub covered : {e : EdgeCoverage} → p ≡ Some e → o ≡ matched path (coverage_of t e)
    unfolding with_primary maybe
    covered some = legs_end.1.1 ∙ rw (← stored.coverages, ← primary, some)

-- the coverages are of these roads, with these metres
module _ (cs : Coverages) (roads : List ℕ) (metres : List Float) (are : Covers cs roads metres) where
  pub primary_is : (t : definition.Sheet) (p : Option EdgeCoverage) → primary_of t p ≡ primary_edge (map (coverage_of t) (paired (take (length metres) roads) metres)) → primary_of t p ≡ primary_edge (coverages_at t cs)
  primary_is t p is = rw (are.1, are.2, are.0) is

  pub roads_below : (e : ℕ) → OnRoads e cs → RoadNumbers e (length (take (length metres) roads)) (take (length metres) roads)
  roads_below e below = rw (are.1, are.0) at (numbers_front e cs.count cs.roads.now (omega arith) below)

module _ {k : FullPath} {ids : List ℕ} {x : code.FullPath} (runs : PathWritten k ids x) where
  -- a matched path runs over roads of the sheet, at least one
  module _ (sheet : Sheet) (slots : ℕ) {p : legs.EdgeCoverage} (is : outcome (view (contents sheet)) (bounded_astar slots) ≡ matched k p) (fits : x.written ≤ length ids) where
    formed : Formed (contents sheet)
    formed = well_formed_formed sheet.bytes.now sheet.counts sheet.well_formed

    count_is : x.written ≡ length (road_numbers k.roads)
    count_is = sym (length-take-le x.written ids fits) ∙ ap length runs.roads

    pub some_written : 0 < x.written
    some_written = omega (arith, count_is, length-map k.roads (λ (r : Road). r.number), some_road (contents sheet) formed slots k p is)

    pub own_numbers : RoadNumbers sheet.counts.e x.written ids
    own_numbers j h =
        let t = contents sheet in
        let m = Memᴰ.of_map (λ (r : Road). r.number) k.roads (in_getD (road_numbers k.roads) j 0 (omega (arith, count_is))) in
        let below = (own_road t formed m.0 (path_roads t formed (InSheet t) (sheet_roads t formed) slots k p is m.0 m.1)).0 in
        let same : get_or (road_numbers k.roads) j 0 ≡ get_or ids j 0 = ap (λ (l : List ℕ). get_or l j 0) (sym runs.roads) ∙ get_or-take x.written ids j 0 h in
        omega (arith, below, road_count sheet.bytes.now sheet.counts, m.2 ∙ same)

  -- the walks at both ends are those of the path
  pub ends_are : (t : definition.Sheet) {set : Settings} {path : List ℕ} {start_cap end_cap : Float}
      → set ≡ t.settings
      → path ≡ take x.written ids
      → start_cap ≡ snap_cap_m set (segment_as x.first)
      → end_cap ≡ snap_cap_m set (segment_as x.last)
      → extend_ends t start_cap end_cap (record { path = path; start_offset = x.first.start_offset_m; end_offset = x.last.end_offset_m }) ≡ finalize_path t k
  unfolding finalize_path
  ends_are t s p a b = rw (← runs.first, ← runs.last, ← runs.roads, p, a, b, s)
