-- What everything before the ends reads of a sheet: rows with the roads they name, the roads that a leg permits, the distances to a goal. Sheets with equal views are decoded alike up to the ends.
use Rattle.std.specs.Prelude.{ℕ, ◌+◌, min, Bool, cond, ◌||◌, List, [], ◌∷◌, map, eqb, leb, get_or, Float}
use Rattle.model.specs.declared.Settings.{Settings}
use Rattle.model.specs.declared.Point.{Point}
use Rattle.model.specs.declared.Row.{Row}
use Rattle.model.specs.declared.Road.{Road}
use Rattle.model.specs.declared.AStarConstraints.{AStarConstraints}
use Rattle.model.specs.declared.Limits.{Limits}
use Rattle.model.specs.Numbers.{◌⊕◌, ◌⊖◌, ◌⊗◌, fmin, fmax, f0, f1, f500}
use Rattle.model.specs.Lists.{filter, init}
use Rattle.model.specs.Sheet.{MeasuredPoint, Goal, Sheet, road_at, leaving_roads}

-- ---- what a leg accepts

-- max_valid_distance: the greatest length for a DNP
unfoldable pub max_valid_distance : Settings → Float → Float
max_valid_distance c dnp = fmax (dnp ⊗ (f1 ⊕ c.length_tolerance)) (dnp ⊕ c.absolute_length_tolerance)

-- min_distance: the least length
unfoldable pub min_distance : Settings → Float → Float
min_distance c dnp = fmin (dnp ⊗ (f1 ⊖ c.length_tolerance)) (fmax (dnp ⊖ c.absolute_length_tolerance) f0)

-- max_search_distance
unfoldable pub max_search_distance : Settings → Float → Float
max_search_distance c dnp = fmax (dnp ⊗ c.max_search_distance_factor) f500

-- the limit raised by the FRC tolerance and capped at 7; without a limit (255) every class
unfoldable pub raised : ℕ → ℕ → ℕ
raised tolerance limit = cond (eqb limit 255) 255 (min 7 (limit + tolerance))

unfoldable pub limits_of : Settings → Point → Limits
limits_of c p = record {
  dnp = p.dnp;
  min_distance = min_distance c p.dnp;
  max_valid_distance = max_valid_distance c p.dnp;
  max_search_distance = max_search_distance c p.dnp;
  constraints = record {
    max_frc = raised c.frc_tolerance p.limit;
    slip_road_cost_penalty = c.slip_road_cost_penalty;
    access_road_cost_penalty = c.access_road_cost_penalty;
  };
}

abbrev pub is_slip : Road → Bool
is_slip r = eqb r.fow 6

-- a leg may use the road: its class is within the raised limit, or it is a slip road
unfoldable pub permits : AStarConstraints → Road → Bool
permits k r = leb r.frc k.max_frc || is_slip r

-- what a road costs beside its length; slip wins over access
unfoldable pub penalty : AStarConstraints → Road → Float
penalty k r = cond (is_slip r) k.slip_road_cost_penalty (cond r.access k.access_road_cost_penalty f0)

-- ---- the view

-- A row with the road that it names.
pub record Projection : Type 0 where
  pub row : Row
  pub road : Road

-- A point with its rows.
pub record ProjectedPoint : Type 0 where
  pub point : Point
  pub projections : List Projection

-- Leg i runs from point i to point i + 1. `leaving v`: the permitted roads leaving v, in list order.
pub record Leg : Type 0 where
  pub limits : Limits
  pub leaving : ℕ → List Road

-- `to_goal g v`: the distance from v to g.
pub record View : Type 0 where
  pub kind : ℕ
  pub nodes : ℕ
  pub settings : Settings
  pub points : List ProjectedPoint
  pub legs : List Leg
  pub to_goal : ℕ → ℕ → Float

abbrev pub projection_of : Sheet → Row → Projection
projection_of t w = record { row = w; road = road_at t w.road }

abbrev pub projected_point : Sheet → MeasuredPoint → ProjectedPoint
projected_point t p = record { point = p.point; projections = map (projection_of t) p.rows }

abbrev pub leg_of : Sheet → MeasuredPoint → Leg
leg_of t p =
    let limits = limits_of t.settings p.point in
    record { limits = limits; leaving = λ v. filter (permits limits.constraints) (leaving_roads t v) }

-- the points that a leg starts from
abbrev pub leg_starts : Sheet → List MeasuredPoint
leg_starts t = init t.points

unfoldable pub distances_to : List Goal → ℕ → List Float
distances_to [] g = []
distances_to (x ∷ xs) g = cond (eqb x.node g) x.distances (distances_to xs g)

unfoldable pub view : Sheet → View
view t = record {
  kind = t.kind;
  nodes = t.nodes;
  settings = t.settings;
  points = map (projected_point t) t.points;
  legs = map (leg_of t) (leg_starts t);
  to_goal = λ g v. get_or (distances_to t.goals g) v f0;
}
