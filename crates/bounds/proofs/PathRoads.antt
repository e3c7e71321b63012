-- A property of every road that a row names or a leg permits is one of every road that a leg finds, and of every road of a matched full path.
use Prim.Native.Nat.{ℕ}
use mathlib.Core.Path.{◌≡◌}
use mathlib.Core.Bool.{Bool, true, false}
use mathlib.Core.List.{List, ◌++◌, map}
use lib.Ieee.{Float}
use Rattle.model.specs.declared.Road.{Road}
use Rattle.model.specs.Candidates.{Candidate}
use Rattle.model.specs.Lists.{In}
use Rattle.model.specs.Sheet.{Sheet}
use Rattle.model.specs.View.{Leg, view}
use Rattle.model.specs.Search.{bounded_astar}
use Rattle.model.specs.Legs.{EdgeCoverage, PathResult, start_part, end_part, path_cost, stays, terminal, whole, same_edge_path, path_over, find_best_path}
use Rattle.model.specs.Decode.{middle_search, FullPath, roads_of, extended, path_of_leg, outcome, matched}
use Rattle.model.proofs.Members.{Every, every_none, every_cons, every_append, every_map}
use Rattle.bounds.specs.Formed.{Formed}
use Rattle.bounds.proofs.Legs.{Finds}
use Rattle.bounds.proofs.Lines.{Kept, candidates_of}
use Rattle.bounds.proofs.PathLaws.{RoadLaw, RouteLaw, legs_find, append_every, path_law}

-- R of the road covered, and of all roads of a path
module _ (R : Road → Type 0) where
  abbrev pub Covers : EdgeCoverage → Type 0
  Covers c = R c.road

  abbrev pub RouteRoads : PathResult → Type 0
  RouteRoads r = Every Covers r.coverages

module _ (t : Sheet) (wf : Formed t) (R : Road → Type 0) (law : RoadLaw t R) where
  terminal_roads : (b : Bool) (r : Road) (part : Float) → R r → Every (Covers R) (terminal b r part)
  unfolding terminal
  terminal_roads true r part h = every_cons (Covers R) h (every_none (Covers R))
  terminal_roads false r part h = every_none (Covers R)

  routes_roads : RouteLaw t R (RouteRoads R)
  unfolding same_edge_path path_over whole
  routes_roads = record {
    same_edge = λ b p x y h. every_cons (Covers R) x.law (every_none (Covers R));
    over = λ p x y cost middle f.
        let total = path_cost p cost in
        let first = terminal (stays (start_part p) total) p.start.road (start_part p) in
        every_append (Covers R) (first ++ map whole middle)
        (every_append (Covers R) first (terminal_roads (stays (start_part p) total) p.start.road (start_part p) x.law) (every_map (Covers R) whole middle f.roads))
        (terminal_roads (stays (end_part p) total) p.end.road (end_part p) y.law);
  }

  pub leg_roads : (slots : ℕ) (leg : Leg) (xs ys : List Candidate) → In leg (view t).legs → In xs (candidates_of (view t)) → In ys (candidates_of (view t)) → Finds (RouteRoads R) (find_best_path leg.limits (middle_search (view t) (bounded_astar slots) leg) xs ys)
  leg_roads slots leg xs ys l m k = legs_find t wf R law slots (RouteRoads R) routes_roads leg xs ys l m k

  roads_hold : (r : PathResult) → RouteRoads R r → Every R (roads_of r)
  roads_hold r h = every_map R (λ (c : EdgeCoverage). c.road) r.coverages h

  legs_roads : Kept (RouteRoads R) (λ n k. Every R k.roads)
  unfolding extended path_of_leg
  legs_roads = record {
    begins = every_none R;
    extends = λ i k leg r h f. append_every R k.roads (roads_of r) h (roads_hold r f);
    same_edge = λ leg r f. roads_hold r f;
  }

  pub path_roads : (slots : ℕ) (k : FullPath) (c : EdgeCoverage) → outcome (view t) (bounded_astar slots) ≡ matched k c → Every R k.roads
  path_roads slots k c e = (path_law t wf R law slots (RouteRoads R) routes_roads (λ n k. Every R k.roads) legs_roads k c e).holds
