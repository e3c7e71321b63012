-- What a well-formed sheet gives, said of the parsed sheet.
use Rattle.std.specs.Prelude.{ℕ, ◌<◌, ◌≡◌, length}
use Rattle.model.specs.declared.Row.{Row}
use Rattle.model.specs.declared.Road.{Road}
use Rattle.model.specs.Lists.{In}
use Rattle.model.specs.Sheet.{MeasuredPoint, Sheet, road_at, list_at}
use Rattle.bounds.specs.Amounts.{Finite}

pub record RoadFacts (t : Sheet) (r : Road) : Type 0 where
  pub source : r.source < t.nodes
  pub target : r.target < t.nodes
  pub length_m : Finite r.length_m

pub record RowFacts (t : Sheet) (w : Row) : Type 0 where
  pub road : w.road < length t.roads
  pub distance_m : Finite w.distance_m
  pub along_m : Finite w.along_m
  pub length_m : Finite w.length_m

pub record Formed (t : Sheet) : Type 0 where
  pub parts : length t.lists ≡ t.nodes
  pub roads : (r : Road) → In r t.roads → RoadFacts t r
  pub numbered : (i : ℕ) → i < length t.roads → (road_at t i).number ≡ i
  pub lists : (v i : ℕ) → In i (list_at t v) → (i < length t.roads) × ((road_at t i).source ≡ v)
  pub rows : (p : MeasuredPoint) → In p t.points → (w : Row) → In w p.rows → RowFacts t w
  pub slip : Finite t.settings.slip_road_cost_penalty
  pub access : Finite t.settings.access_road_cost_penalty
