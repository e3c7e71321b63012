-- What the walk over the roads keeps of a node's neighbours: up to two, or nothing where there is a choice. Each step as the code goes.
use Rattle.std.specs.Prelude.{ℕ, ◌+◌, ◌≤◌, Bool, true, false, cond, eqb, ltb, Option, Some, None, option_map}
use Rattle.model.specs.declared.Neighbour.{Neighbour}
use Rattle.model.specs.Ends.{grown}
use Rattle.road_network.specs.declared.graph.Side.{Side}
use Rattle.road_network.specs.declared.graph.Side.TheVariants.{In, Out}
use Rattle.road_network.specs.declared.graph.Neighbours.{Neighbours}
use Rattle.road_network.specs.declared.graph.Neighbours.TheVariants.{Nobody, One, Two}

abbrev pub inward : Side → Bool
inward In = true
inward Out = false

-- a neighbour at its first road
abbrev pub new_neighbour : ℕ → Bool → Neighbour
new_neighbour v inward = grown inward (record { node = v; ins = 0; outs = 0 })

-- one road more this way is the second
unfoldable pub is_second : Bool → Neighbour → Bool
is_second inward x = cond inward (ltb 0 x.ins) (ltb 0 x.outs)

-- one road more this way, if it is the first
unfoldable pub one_more : Bool → Neighbour → Option Neighbour
one_more inward x = cond (is_second inward x) None (Some (grown inward x))

-- one road more, in from v or out to it
unfoldable pub meet_node : Neighbours → ℕ → Bool → Option Neighbours
meet_node Nobody v inward = Some (One (new_neighbour v inward))
meet_node (One a) v inward = cond (eqb a.node v) (option_map One (one_more inward a)) (Some (Two a (new_neighbour v inward)))
meet_node (Two a b) v inward =
    cond (eqb a.node v) (option_map (λ x. Two x b) (one_more inward a))
    (cond (eqb b.node v) (option_map (λ x. Two a x) (one_more inward b))
    None)

-- a road seen from node v
unfoldable pub meets_road : ℕ → Neighbours → ℕ → ℕ → Option Neighbours
meets_road v x source target = cond (eqb target v) (cond (eqb source v) None (meet_node x source true)) (cond (eqb source v) (meet_node x target false) (Some x))

-- at most one road each way to each of two neighbours
abbrev pub Few : Neighbours → Type 0
Few Nobody = Unit
Few (One a) = Unit
Few (Two a b) = (a.ins ≤ 1) × (a.outs ≤ 1) × (b.ins ≤ 1) × (b.outs ≤ 1)

-- two neighbours, as many roads in as out
unfoldable pub is_through : Neighbours → Bool
is_through Nobody = false
is_through (One a) = false
is_through (Two a b) = eqb (a.ins + b.ins) (a.outs + b.outs)
