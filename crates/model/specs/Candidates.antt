-- "Candidates" and the leaves that they use: road_class.rs, spatial.rs and candidates.rs after measuring; and the closest-candidate rule of "Points".
use Rattle.std.specs.Prelude.{ℕ, suc, Bool, true, false, ◌||◌, ◌&&◌, not, cond, List, [], ◌∷◌, map, pos, ◌-ℤ◌, nat_abs, eqb, ltb, get_or, take, length, Float}
use Rattle.std.proofs.Math.Option.{Option}
use Rattle.std.specs.Float.Ieee.{eq}
use Rattle.model.specs.declared.Settings.{Settings}
use Rattle.model.specs.declared.Point.{Point}
use Rattle.model.specs.declared.Road.{Road}
use Rattle.model.specs.Numbers.{◌⊕◌, ◌⊖◌, ◌⊗◌, ◌⊘◌, ◌<ᶠ◌, fmin, fabs, nat, f0, half, three_quarters, f1, f180, f360, infinity}
use Rattle.model.specs.Lists.{any, when, filter_map, sort, fold}
use Rattle.model.specs.View.{Projection, ProjectedPoint, is_slip}

-- ---- leaves

-- is_access_road: exactly these byte strings. residential, living_street, service, track
abbrev pub access_roads : List (List ℕ)
access_roads =
    (114 ∷ 101 ∷ 115 ∷ 105 ∷ 100 ∷ 101 ∷ 110 ∷ 116 ∷ 105 ∷ 97 ∷ 108 ∷ [])
    ∷ (108 ∷ 105 ∷ 118 ∷ 105 ∷ 110 ∷ 103 ∷ 95 ∷ 115 ∷ 116 ∷ 114 ∷ 101 ∷ 101 ∷ 116 ∷ [])
    ∷ (115 ∷ 101 ∷ 114 ∷ 118 ∷ 105 ∷ 99 ∷ 101 ∷ [])
    ∷ (116 ∷ 114 ∷ 97 ∷ 99 ∷ 107 ∷ [])
    ∷ []

unfoldable pub same_bytes : List ℕ → List ℕ → Bool
same_bytes [] [] = true
same_bytes [] (y ∷ ys) = false
same_bytes (x ∷ xs) [] = false
same_bytes (x ∷ xs) (y ∷ ys) = eqb x y && same_bytes xs ys

unfoldable pub is_access_road : List ℕ → Bool
is_access_road tag = any (same_bytes tag) access_roads

-- bearing_difference: degrees, 0 to 180
unfoldable pub bearing_difference : Float → Float → Float
bearing_difference a b = let d = fabs (a ⊖ b) in cond (f180 <ᶠ d) (f360 ⊖ d) d

-- LineProjection::fraction: along / length held to 0 to 1, and 0 for length 0
unfoldable pub fraction : Float → Float → Float
fraction along length = cond (f0 <ᶠ length) (let q = along ⊘ length in cond (q <ᶠ f0) f0 (cond (f1 <ᶠ q) f1 q)) f0

-- the signed difference of the two class numbers, made positive
abbrev pub class_difference : ℕ → ℕ → ℕ
class_difference a b = nat_abs (pos a -ℤ pos b)

-- Fow::substitution_score. Rows: the point's form of way. Columns: the road's.
abbrev pub fow_score_matrix : List (List Float)
fow_score_matrix =
    (half ∷ half ∷ half ∷ half ∷ half ∷ half ∷ half ∷ half ∷ [])
    ∷ (half ∷ f1 ∷ three_quarters ∷ f0 ∷ f0 ∷ f0 ∷ f0 ∷ f0 ∷ [])
    ∷ (half ∷ three_quarters ∷ f1 ∷ three_quarters ∷ half ∷ f0 ∷ f0 ∷ f0 ∷ [])
    ∷ (half ∷ f0 ∷ three_quarters ∷ f1 ∷ half ∷ half ∷ f0 ∷ f0 ∷ [])
    ∷ (half ∷ f0 ∷ half ∷ half ∷ f1 ∷ half ∷ f0 ∷ f0 ∷ [])
    ∷ (half ∷ f0 ∷ f0 ∷ half ∷ half ∷ f1 ∷ f0 ∷ f0 ∷ [])
    ∷ (half ∷ f0 ∷ f0 ∷ f0 ∷ f0 ∷ f0 ∷ f1 ∷ f0 ∷ [])
    ∷ (half ∷ f0 ∷ f0 ∷ f0 ∷ f0 ∷ f0 ∷ f0 ∷ f1 ∷ [])
    ∷ []

unfoldable pub substitution_score : ℕ → ℕ → Float
substitution_score wanted actual = get_or (get_or fow_score_matrix wanted []) actual f0

-- ---- find_candidates

-- A candidate, with its road's whole record where the scope's record has the number: a leg then looks nothing up, and equal views give equal legs.
-- The code's struct has the number; candidates/specs/Found says how the two belong together.
pub record Candidate : Type 0 where
  pub road : Road
  pub distance_m : Float
  pub bearing_diff : Float
  pub frc_diff : ℕ
  pub fow_score : Float
  pub score : Float
  pub projection_fraction : Float

-- a zero maximum gives penalty 0
unfoldable pub normalize : Float → Float → Float
normalize value max = cond (f0 <ᶠ max) (value ⊘ max) f0

-- compute_score: four weighted penalties, each operation rounded once
unfoldable pub compute_score : Settings → Float → Float → ℕ → Float → Float
compute_score c distance bearing class fow =
    c.distance_weight ⊗ normalize distance c.search_radius_m
    ⊕ c.bearing_weight ⊗ normalize bearing c.max_bearing_diff
    ⊕ c.frc_weight ⊗ normalize (nat class) (nat c.frc_tolerance)
    ⊕ c.fow_weight ⊗ (f1 ⊖ fow)

unfoldable pub candidate_of : Settings → Point → Projection → Candidate
candidate_of c p s =
    let bearing = bearing_difference (nat p.bearing) s.row.bearing in
    let class = class_difference s.road.frc p.frc in
    let fow = substitution_score p.fow s.road.fow in
    record {
      road = s.road;
      distance_m = s.row.distance_m;
      bearing_diff = bearing;
      frc_diff = class;
      fow_score = fow;
      score = compute_score c s.row.distance_m bearing class fow;
      projection_fraction = fraction s.row.along_m s.row.length_m;
    }

-- A class difference above the tolerance drops the road unless it is a slip road; distance and bearing drop it only above their maxima.
unfoldable pub passes : Settings → Candidate → Bool
passes c x =
    not (ltb c.frc_tolerance x.frc_diff && not (is_slip x.road))
    && not (c.search_radius_m <ᶠ x.distance_m)
    && not (c.max_bearing_diff <ᶠ x.bearing_diff)

unfoldable pub candidate : Settings → Point → Projection → Option Candidate
candidate c p s = let x = candidate_of c p s in when (passes c x) x

-- by score, then road number; no score is a NaN or -0, where the order of numbers would differ from total_cmp
unfoldable pub better : Candidate → Candidate → Bool
better a b = a.score <ᶠ b.score || (eq a.score b.score && ltb a.road.number b.road.number)

-- Sorted, then cut to the most candidates. That the last point looks Backward is in the host's measured bearings.
unfoldable pub find_candidates : Settings → ProjectedPoint → List Candidate
find_candidates c p = take c.max_candidates (sort better (filter_map (candidate c p.point) p.projections))

-- ---- require_close_candidate

-- the least candidate distance of a point
unfoldable pub nearest : List Candidate → Float
nearest xs = fold (λ d x. fmin d x.distance_m) infinity xs

pub record Closest : Type 0 where
  pub point : ℕ
  pub distance : Float

-- the point with the smallest distance, the first if equal; i is the next point's number
unfoldable pub closest : ℕ → Closest → List Float → Closest
closest i best [] = best
closest i best (d ∷ ds) = closest (suc i) (cond (d <ᶠ best.distance) (record { point = i; distance = d }) best) ds

unfoldable pub closest_point : List (List Candidate) → Closest
closest_point cs = closest 0 (record { point = 0; distance = infinity }) (map nearest cs)
