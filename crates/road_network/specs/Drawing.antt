-- Four roads, each one-way, by their numbers:
--
--     0 --0--> 1 --1--> 2 --3--> 0       and road 2, a loop at 2
--
use Rattle.std.specs.Prelude.{◌≡◌, true, false, [], ◌∷◌}
use Rattle.std.proofs.Math.Option.{none, some}
use Rattle.model.specs.Sheet.{Sheet}
use Rattle.model.specs.Ends.{is_valid_node, forced_continuation, forced_predecessor}
use Rattle.model.specs.Marked.{defaults, one_way}
use Rattle.road_network.specs.Graph.{roads_read}

abbrev pub drawn_sheet : Sheet
drawn_sheet = record {
  kind = 1;
  nodes = 3;
  settings = defaults;
  points = [];
  roads = one_way 0 0 1 ∷ one_way 1 1 2 ∷ one_way 2 2 2 ∷ one_way 3 2 0 ∷ [];
  lists = (0 ∷ []) ∷ (1 ∷ []) ∷ (2 ∷ 3 ∷ []) ∷ [];
  from_first = [];
  from_last = [];
  goals = [];
}

pub record Drawn : Type 0 where
  -- node 1 is passed through, which takes all four roads to tell
  pub through : (is_valid_node drawn_sheet 1 ≡ false) × (roads_read drawn_sheet 1 ≡ 4)
  -- at node 2 the loop decides it, the third road
  pub looped : (is_valid_node drawn_sheet 2 ≡ true) × (roads_read drawn_sheet 2 ≡ 3)
  -- road 0 forces road 1, and road 1 nothing
  pub on : (forced_continuation drawn_sheet 0 ≡ some 1) × (forced_continuation drawn_sheet 1 ≡ none)
  -- before road 1 comes road 0, before road 0 road 3
  pub back : (forced_predecessor drawn_sheet 1 ≡ some 0) × (forced_predecessor drawn_sheet 0 ≡ some 3)
