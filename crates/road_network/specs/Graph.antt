-- How many roads the test of a node reads, nodes with many roads out, and the ways from an end of a road.
use Rattle.std.specs.Prelude.{ℕ, suc, ◌<◌, ◌≡◌, Bool, ◌||◌, cond, List, [], ◌∷◌, ltb, length, Some, None}
use Rattle.std.specs.Prelude as std
use Rattle.std.proofs.Math.Option.{Option, none, some}
use Rattle.model.specs.declared.Neighbour.{Neighbour}
use Rattle.model.specs.Lists.{any}
use Rattle.model.specs.Sheet.{Sheet, road_at, numbers, list_at}
use Rattle.model.specs.Ends.{meet_road, is_choice, way_on, way_back}

-- a self-loop, a third neighbour or a second road one way to a neighbour: the node is valid, whatever roads are met later
unfoldable pub decided : ℕ → List Neighbour → Bool
decided v xs = ltb 2 (length xs) || any (is_choice v) xs

-- the roads read from these numbers on, after the neighbours xs: up to the deciding road, itself included, else all
unfoldable pub reads : Sheet → ℕ → List Neighbour → List ℕ → ℕ
reads t v xs [] = 0
reads t v xs (r ∷ rs) = cond (decided v (meet_road v xs (road_at t r))) 1 (suc (reads t v (meet_road v xs (road_at t r)) rs))

-- the roads read of all, by rising number
abbrev pub roads_read : Sheet → ℕ → ℕ
roads_read t v = reads t v [] (numbers t)

-- more than two roads out
unfoldable pub is_fork : Sheet → ℕ → Bool
is_fork t v = ltb 2 (length (list_at t v))

-- the answer to a way o of a sheet of e roads: the road, which is one of them, or none
abbrev pub Forces : Option ℕ → ℕ → std.Option ℕ → Type 0
Forces o e (Some x) = (o ≡ some x) × (x < e)
Forces o e None = o ≡ none

-- the node at the end of road r, or at its start
abbrev pub first_node : Sheet → Bool → ℕ → ℕ
first_node t forward r = cond forward (road_at t r).target (road_at t r).source

-- the way on from there, or back, whatever choice the node gives
abbrev pub first_way : Sheet → Bool → ℕ → Option ℕ
first_way t forward r = cond forward (way_on t r) (way_back t r)
