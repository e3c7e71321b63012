-- What the legs of a reference leave in the lent areas, and what that stands for in the definition.
use Rattle.std.specs.Prelude.{ℕ, ◌+◌, ◌*◌, ◌≤◌, ◌<◌, ◌≡◌, cond, List, [], ◌++◌, map, eqb, take, drop, Float, Option, Some, None, IfSome, Result, Ok, Err}
use Rattle.model.specs.declared.Counts.{Counts}
use Rattle.model.specs.declared.Road.{Road}
use Rattle.model.specs.declared.Limits.{Limits}
use Rattle.model.specs.declared.error.DecodeError.{DecodeError}
use Rattle.model.specs.declared.error.DecodeError.TheVariants as refusals
use Rattle.model.specs.Refusals.{number_of, place_a, place_b}
use Rattle.model.specs.Numbers.{◌⊕◌, f0}
use Rattle.model.specs.Lists.{last}
use Rattle.model.specs.Sheet.{Sheet, road_at}
use Rattle.model.specs.View.{limits_of, view}
use Rattle.model.specs.Search.{bounded_astar}
use Rattle.model.specs.Legs.{PathResult, LegEnd, best, find_best_path}
use Rattle.model.specs.Decode.{FullPath, no_path_yet, roads_of, Outcome, refused, with_primary, after_leg, decode_line, decode_point_along_line}
use Rattle.model.specs.Decode as decode
use Rattle.sheet.specs.Contents.{contents}
use Rattle.candidates.specs.Found.{point_at, candidates_at}
use Rattle.candidates.specs.Points.{candidates_of}
use Rattle.rules.specs.declared.Middle.{Middle}
use Rattle.search.specs.declared.areas.SearchAreas.{SearchAreas}
use Rattle.search.specs.Areas.{back_way, LeadsBack}
use Rattle.legs.specs.Found.{middle_search_at}
use Rattle.legs.specs.declared.LegError.{LegError}
use Rattle.legs.specs.declared.LegError.TheVariants.{NoPath, HeapFull}
use Rattle.full_path.specs.declared.Coverages.{Coverages}
use Rattle.full_path.specs.declared.Covering.{Covering}
use Rattle.full_path.specs.Left.{unwritten, coverages_at, cover_all, OnRoads}
use Rattle.lines.specs.declared.SegmentInfo.{SegmentInfo}
use Rattle.lines.specs.declared.WrittenLeg.{WrittenLeg}
use Rattle.lines.specs.declared.FullPath as code

-- ---- one leg

abbrev pub leg_limits : Sheet → ℕ → Limits
leg_limits t i = limits_of t.settings (point_at t i).point

-- what the leg from point i finds, with a heap of `slots` entries
unfoldable pub leg_end_from : Sheet → ℕ → ℕ → LegEnd
leg_end_from t slots i = find_best_path (leg_limits t i) (middle_search_at t slots (leg_limits t i)) (candidates_at t i) (candidates_at t (i + 1))

-- a refusal as the definition has it
abbrev pub refusal : DecodeError → Outcome
refusal e = refused (number_of e) (place_a e) (place_b e)

-- why leg i has no route
abbrev pub refused_leg : ℕ → LegError → DecodeError
refused_leg i NoPath = refusals.NoPath i (i + 1)
refused_leg i HeapFull = refusals.HeapFull i

abbrev pub segment_as : SegmentInfo → decode.SegmentInfo
segment_as g = record { length_m = g.length_m; expected_m = g.expected_m; start_offset_m = g.start_offset_m; end_offset_m = g.end_offset_m }

abbrev pub road_numbers : List Road → List ℕ
road_numbers rs = map (λ (x : Road). x.number) rs

-- the marks lead back over a route's middle, if it has one
abbrev pub Traceable : SearchAreas → Option Middle → Type 0
Traceable areas middle = IfSome middle (λ m. (m.goal < areas.sheet.counts.n) × LeadsBack (road_at (contents areas.sheet)) areas.sheet.counts.e areas.came_from.now m.count m.goal)

-- its roads so
abbrev pub marked_way : SearchAreas → Option Middle → List ℕ
marked_way areas None = []
marked_way areas (Some m) = back_way (road_at (contents areas.sheet)) areas.came_from.now m.count m.goal

-- The route r of a leg, left behind the first n numbers of `ids` and the coverages x: its roads in the list ids₁, its coverages in y, its segment.
pub record RouteWritten (t : Sheet) (c : Counts) (covering : Covering) (dnp : Float) (n : ℕ) (ids : List ℕ) (x : Coverages) (r : PathResult) (ids₁ : List ℕ) (y : Coverages) (w : WrittenLeg) : Type 0 where
  pub roads : take (n + w.written) ids₁ ≡ take n ids ++ unwritten (last (take n ids)) (road_numbers (roads_of r))
  pub coverages : coverages_at t y ≡ cover_all covering (coverages_at t x) r.coverages
  pub segment : segment_as w.segment ≡ record { length_m = r.total_length; expected_m = dnp; start_offset_m = r.start_offset_m; end_offset_m = r.end_offset_m }
  pub few : w.written ≤ c.n + 1
  pub most : y.count ≤ x.count + c.n + 1
  pub below : OnRoads c.e y

-- how leg i ends: with its route written, or refused
abbrev pub LegWritten : Sheet → Counts → ℕ → ℕ → Covering → ℕ → List ℕ → Coverages → List ℕ → Coverages → Result WrittenLeg DecodeError → Type 0
LegWritten t c slots i covering n ids x ids₁ y (Ok w) = (r : PathResult) × (leg_end_from t slots i ≡ best r) × RouteWritten t c covering (leg_limits t i).dnp n ids x r ids₁ y w
LegWritten t c slots i covering n ids x ids₁ y (Err e) = (next : PathResult → Outcome) → after_leg i (leg_end_from t slots i) next ≡ refusal e

-- ---- all legs

-- the path k, with the numbers of its roads in the front of `ids`
pub record PathWritten (k : FullPath) (ids : List ℕ) (x : code.FullPath) : Type 0 where
  pub roads : take x.written ids ≡ road_numbers k.roads
  pub total_length : x.total_length ≡ k.total_length
  pub first : segment_as x.first ≡ k.first_segment
  pub last : segment_as x.last ≡ k.last_segment

-- The path k, in the lent areas: its roads and its coverages, at most `most` of each.
pub record PathStored (t : Sheet) (e most : ℕ) (k : FullPath) (ids : List ℕ) (y : Coverages) (x : code.FullPath) : Type 0 where
  pub written : PathWritten k ids x
  pub coverages : coverages_at t y ≡ k.coverages
  pub few_roads : x.written ≤ most
  pub few_coverages : y.count ≤ most
  pub below : OnRoads e y

-- a leg without a path is one of the legs, from its point to the next
abbrev pub LegInRange : Counts → DecodeError → Type 0
LegInRange c (refusals.NoPath from to) = (from < c.p) × (to ≡ from + 1)
LegInRange c e = Unit {0}

-- how the legs end that come to the outcome o: with a path, whose primary road decides, or refused
abbrev pub LegsWritten : Sheet → Counts → Outcome → List ℕ → Coverages → Result code.FullPath DecodeError → Type 0
LegsWritten t c o ids y (Ok x) = (0 < c.p) × ((k : FullPath) × (o ≡ with_primary c.p k) × PathStored t c.e (c.p * (c.n + 1)) k ids y x)
LegsWritten t c o ids y (Err e) = (o ≡ refusal e) × LegInRange c e

-- what the legs of a line come to, and the one leg of a point along line
abbrev pub line_outcome : Sheet → ℕ → Outcome
line_outcome t slots = decode_line (view t) (bounded_astar slots) 0 no_path_yet (candidates_at t 0) (view t).legs (drop 1 (candidates_of t))

abbrev pub point_along_line_outcome : Sheet → ℕ → Outcome
point_along_line_outcome t slots = decode_point_along_line (view t) (bounded_astar slots) (candidates_at t 0) (view t).legs (drop 1 (candidates_of t))

-- no leg walked yet
abbrev pub no_segment_yet : SegmentInfo
no_segment_yet = record { length_m = f0; expected_m = f0; start_offset_m = f0; end_offset_m = f0 }

abbrev pub no_leg_yet : code.FullPath
no_leg_yet = record { written = 0; total_length = f0; first = no_segment_yet; last = no_segment_yet }

-- the path of a line after leg i
abbrev pub extended_by : ℕ → code.FullPath → WrittenLeg → code.FullPath
extended_by i x w = record {
  written = x.written + w.written;
  total_length = x.total_length ⊕ w.segment.length_m;
  first = cond (eqb i 0) w.segment x.first;
  last = w.segment;
}
