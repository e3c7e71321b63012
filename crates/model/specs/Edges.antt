-- Edges: the examples of the refusal table, "other edges" of the marked set, and small graphs with ties. proofs/EdgesProof.antt has the proofs, by computing.
use Rattle.std.specs.Prelude.{ℕ, ◌≡◌, Bool, true, false, cond, List, [], ◌∷◌, get_or, set, take, replicate, Float}
use Rattle.std.proofs.Math.Option.{Option, some}
use Rattle.model.specs.declared.Road.{Road}
use Rattle.model.specs.declared.Limits.{Limits}
use Rattle.model.specs.Numbers.{bits, nat, f0, f1}
use Rattle.model.specs.Lists.{sort}
use Rattle.model.specs.View.{Leg, View, limits_of}
use Rattle.model.specs.Candidates.{Candidate, is_access_road, bearing_difference}
use Rattle.model.specs.Heap.{push, pop}
use Rattle.model.specs.Search.{Query, Search, found, full, bounded_astar}
use Rattle.model.specs.Legs.{EdgeCoverage, Scored, Pair, MiddleSearch, best, heap_full, close, excellent, pair, by_sum, same_edge_path, try_pairs}
use Rattle.model.specs.Decode.{middle_search, greater}
use Rattle.model.specs.Call.{Lists, Lent, Decoded, Match, refused, matched, decode}
use Rattle.model.specs.Build.{settings_with, default_settings, point, road, row, goal, sheet_bytes}
use Rattle.model.specs.Marked.{lists, with_heap, lent, refusal, one_road, first_point, last_point, on_road, two_points, defaults, class_1}

-- ---- the refusals

-- a refusal that leaves the lists untouched
abbrev pub lists_untouched : ℕ → ℕ → Decoded
lists_untouched number at = record { answer = refused number at 0; lists = lists }

-- S1 with byte `at` changed
abbrev pub changed : ℕ → ℕ → List ℕ
changed at byte = set (two_points 25 75) at byte

abbrev pub small_areas : Lent
small_areas = record { node = 1; heap = 128; coverage = 256; lists = lists }

-- Three roads in a row, 0 to 1 to 2 to 3, with these ids; all node distances 0.
abbrev pub three_roads : ℕ → List ℕ → List (List ℕ) → List (List ℕ) → List (List ℕ) → List ℕ
three_roads kind ids points rows goals = sheet_bytes record {
  kind = kind;
  nodes = 4;
  settings = default_settings;
  points = points;
  roads = road (get_or ids 0 0) 100 0 1 3 3 0 ∷ road (get_or ids 1 0) 100 1 2 3 3 0 ∷ road (get_or ids 2 0) 100 2 3 3 3 0 ∷ [];
  starts = 0 ∷ 1 ∷ 2 ∷ 3 ∷ 3 ∷ [];
  numbers = 0 ∷ 1 ∷ 2 ∷ [];
  rows = rows;
  from_first = 0 ∷ 0 ∷ 0 ∷ 0 ∷ [];
  from_last = 0 ∷ 0 ∷ 0 ∷ 0 ∷ [];
  goals = goals;
}

abbrev pub middle_of_road : ℕ → List ℕ
middle_of_road r = row r 0 90 50 100

abbrev pub to_node : ℕ → List ℕ
to_node v = goal v (0 ∷ 0 ∷ 0 ∷ 0 ∷ [])

-- from the middle of the first to the middle of the last: one road to search
abbrev pub over_three : ℕ → List ℕ
over_three kind = three_roads kind (700 ∷ 701 ∷ 702 ∷ []) (point 200 3 3 3 1 ∷ last_point 1 ∷ []) (middle_of_road 0 ∷ middle_of_road 2 ∷ []) (to_node 2 ∷ [])

-- four roads in a row, from the middle of the first to the middle of the last: two roads to search, three entries
abbrev pub two_to_search : List ℕ
two_to_search = sheet_bytes record {
  kind = 1;
  nodes = 5;
  settings = default_settings;
  points = point 300 3 3 3 1 ∷ last_point 1 ∷ [];
  roads = road 700 100 0 1 3 3 0 ∷ road 701 100 1 2 3 3 0 ∷ road 702 100 2 3 3 3 0 ∷ road 703 100 3 4 3 3 0 ∷ [];
  starts = 0 ∷ 1 ∷ 2 ∷ 3 ∷ 4 ∷ 4 ∷ [];
  numbers = 0 ∷ 1 ∷ 2 ∷ 3 ∷ [];
  rows = middle_of_road 0 ∷ middle_of_road 3 ∷ [];
  from_first = 0 ∷ 0 ∷ 0 ∷ 0 ∷ 0 ∷ [];
  from_last = 0 ∷ 0 ∷ 0 ∷ 0 ∷ 0 ∷ [];
  goals = goal 3 (0 ∷ 0 ∷ 0 ∷ 0 ∷ 0 ∷ []) ∷ [];
}

pub record RefusalExamples : Type 0 where
  pub short : decode (take 55 (two_points 25 75)) lent ≡ lists_untouched 1 0
  pub points : decode (changed 4 17) lent ≡ lists_untouched 2 0
  pub not_two_points : decode (sheet_bytes record { kind = 2; nodes = 0; settings = []; points = []; roads = []; starts = []; numbers = []; rows = []; from_first = []; from_last = []; goals = [] }) lent ≡ lists_untouched 2 0
  pub total : decode (changed 48 145) lent ≡ lists_untouched 3 0
  pub minus_zero : decode (set (changed 230 0) 231 128) lent ≡ lists_untouched 4 224
  pub spare : decode (changed 245 1) lent ≡ lists_untouched 4 245
  pub kind_zero : decode (changed 0 0) lent ≡ lists_untouched 4 0
  pub unlisted : decode (changed 252 0) lent ≡ lists_untouched 5 0
  pub small_area : decode (two_points 25 75) small_areas ≡ lists_untouched 6 0
  pub kind_four : decode (changed 0 4) lent ≡ refusal 7 4 0
  pub no_rows : decode (sheet_bytes (one_road (first_point 0 ∷ last_point 1 ∷ []) (on_road 75 ∷ []))) lent ≡ refusal 9 0 0
  pub full_heap : decode two_to_search (with_heap 1) ≡ refusal 11 0 0

-- ---- other edges

abbrev pub limits : Limits
limits = limits_of defaults class_1

-- a candidate on the road of this number, at this distance and score
abbrev pub candidate_on : ℕ → ℕ → ℕ → Candidate
candidate_on number distance score = record {
  road = record { number = number; id = 700; length_m = nat 100; source = 0; target = 1; frc = 3; fow = 3; access = false };
  distance_m = nat distance;
  bearing_diff = f0;
  frc_diff = 0;
  fow_score = f1;
  score = nat score;
  projection_fraction = f0;
}

abbrev pub pair_at : ℕ → ℕ → Pair
pair_at a b = pair (candidate_on 0 a 0) (candidate_on 0 b 0)

-- a search that fills the heap wherever it is asked
abbrev pub always_full : MiddleSearch
always_full start goal bound = full

-- the best so far is a path of score 3
abbrev pub score_3 : Option Scored
score_3 = some record { path = same_edge_path (pair_at 0 0); score = nat 3 }

-- from the middle of the first of the three roads to the middle of the last, with the middle one's id
abbrev pub three_match : ℕ → Match
three_match id = record {
  count = 3;
  length_m = nat 200;
  start_offset = nat 50;
  start_fraction = bits 0x3FE0_0000_0000_0000;
  end_offset = nat 50;
  end_fraction = bits 0x3FE0_0000_0000_0000;
  primary = id;
  coverage = nat 100;
}

abbrev pub three_lists : ℕ → ℕ → ℕ → Lists
three_lists a b c = record { ids = a ∷ b ∷ c ∷ replicate 253 0; lengths = nat 100 ∷ nat 100 ∷ nat 100 ∷ replicate 253 f0 }

-- Three points, one on each road, the first two roads with one id. Each leg's start is its goal, so a heap of 1 does; the middle road is
-- written once and its two coverages are summed, by number.
abbrev pub two_legs : List ℕ
two_legs = three_roads 1 (700 ∷ 700 ∷ 702 ∷ []) (point 100 3 3 3 1 ∷ point 100 3 3 3 1 ∷ last_point 1 ∷ []) (middle_of_road 0 ∷ middle_of_road 1 ∷ middle_of_road 2 ∷ []) (to_node 1 ∷ to_node 2 ∷ [])

-- One point with two rows and one candidate kept: the better one lies 40 m off, the other 10 m. The closest-candidate rule sees only the first.
abbrev pub cut_first : List ℕ
cut_first = sheet_bytes record {
  kind = 1;
  nodes = 2;
  settings = settings_with 0x4024_0000_0000_0000 2 1 1;
  points = point 50 3 3 3 2 ∷ [];
  roads = road 700 100 0 1 3 3 0 ∷ road 701 100 0 1 3 3 0 ∷ [];
  starts = 0 ∷ 2 ∷ 2 ∷ [];
  numbers = 0 ∷ 1 ∷ [];
  rows = row 0 40 90 25 100 ∷ row 1 10 150 25 100 ∷ [];
  from_first = 0 ∷ 0 ∷ [];
  from_last = 0 ∷ 0 ∷ [];
  goals = [];
}

-- S1 with a road of class 7 from its end on, 20 m long, whose end is nearer the last point: the walk adds it whatever the limit.
abbrev pub longer : List ℕ
longer = sheet_bytes record {
  kind = 1;
  nodes = 3;
  settings = default_settings;
  points = first_point 1 ∷ last_point 1 ∷ [];
  roads = road 700 100 0 1 3 3 0 ∷ road 701 20 1 2 7 3 0 ∷ [];
  starts = 0 ∷ 1 ∷ 2 ∷ 2 ∷ [];
  numbers = 0 ∷ 1 ∷ [];
  rows = on_road 25 ∷ on_road 75 ∷ [];
  from_first = 0 ∷ 0 ∷ 0 ∷ [];
  from_last = 0 ∷ 9 ∷ 5 ∷ [];
  goals = goal 0 (0 ∷ 0 ∷ 0 ∷ []) ∷ [];
}

abbrev pub longer_match : Match
longer_match = record {
  count = 2;
  length_m = nat 50;
  start_offset = nat 25;
  start_fraction = bits 0x3FD0_0000_0000_0000;
  end_offset = nat 45;
  end_fraction = bits 0x4002_0000_0000_0000;
  primary = 700;
  coverage = nat 50;
}

-- One road of 1000 m with a DNP of 50: 400 metres are over the greatest length of 150, but the points lie on the road. Offsets 250 and 350.
abbrev pub far_on_road : List ℕ
far_on_road = sheet_bytes record {
  kind = 1;
  nodes = 2;
  settings = default_settings;
  points = first_point 1 ∷ last_point 1 ∷ [];
  roads = road 700 1000 0 1 3 3 0 ∷ [];
  starts = 0 ∷ 1 ∷ 1 ∷ [];
  numbers = 0 ∷ [];
  rows = row 0 0 90 250 1000 ∷ row 0 0 90 650 1000 ∷ [];
  from_first = 0 ∷ 0 ∷ [];
  from_last = 0 ∷ 0 ∷ [];
  goals = goal 0 (0 ∷ 0 ∷ []) ∷ [];
}

abbrev pub far_match : Match
far_match = record {
  count = 1;
  length_m = bits 0x4079_0000_0000_0000;
  start_offset = bits 0x406F_4000_0000_0000;
  start_fraction = bits 0x3FD0_0000_0000_0000;
  end_offset = bits 0x4075_E000_0000_0000;
  end_fraction = bits 0x3FD6_6666_6666_6666;
  primary = 700;
  coverage = bits 0x4079_0000_0000_0000;
}

pub record OtherEdges : Type 0 where
  pub exactly_10 : (close limits (pair_at 10 10) ≡ true) × (close limits (pair_at 10 11) ≡ false)
  pub exactly_5 : (excellent (pair_at 4 4) ≡ true) × (excellent (pair_at 4 5) ≡ false)
  pub excellent_length : decode far_on_road lent ≡ record { answer = matched far_match; lists = record { ids = 700 ∷ replicate 255 0; lengths = nat 1000 ∷ replicate 255 f0 } }
  pub start_is_goal : (v : View) (search : Search) (leg : Leg) (n : ℕ) (bound : Float) → middle_search v search leg n n bound ≡ found f0 []
  pub bearing_360 : bearing_difference (nat 360) f0 ≡ f0
  -- the search makes two entries
  pub exact_heap : decode (over_three 1) (with_heap 2) ≡ record { answer = matched (three_match 701); lists = three_lists 700 701 702 }
  pub along_line : decode (over_three 2) (with_heap 2) ≡ record { answer = matched (three_match 701); lists = three_lists 700 701 702 }
  pub summed_by_number : decode two_legs (with_heap 1) ≡ record { answer = matched (three_match 700); lists = three_lists 700 700 702 }
  pub cut_before_closest : decode cut_first lent ≡ refusal 9 0 0
  pub walk_any_class : decode longer lent ≡ record { answer = matched longer_match; lists = record { ids = 700 ∷ 701 ∷ replicate 254 0; lengths = nat 100 ∷ nat 20 ∷ replicate 254 f0 } }
  pub access_track : is_access_road (116 ∷ 114 ∷ 97 ∷ 99 ∷ 107 ∷ []) ≡ true
  pub access_prefix : is_access_road (116 ∷ 114 ∷ 97 ∷ []) ≡ false
  pub access_longer : is_access_road (116 ∷ 114 ∷ 97 ∷ 99 ∷ 107 ∷ 115 ∷ []) ≡ false

-- ---- ties

-- equal keys for all entries
abbrev pub level : ℕ → Float
level k = f1

-- a road of this number and length; an access road where the flag is set
abbrev pub road_between : ℕ → ℕ → ℕ → ℕ → Bool → Road
road_between number source target metres access = record { number = number; id = 0; length_m = nat metres; source = source; target = target; frc = 3; fow = 3; access = access }

-- a search to node 3 over the roads of each node, 10 more for an access road
abbrev pub to_three : List (List Road) → List Float → ℕ → Query
to_three roads distances bound = record { nodes = 5; leaving = λ v. get_or roads v []; penalty = λ r. cond r.access (nat 10) f0; heuristic = λ v. get_or distances v f0; goal = 3; max_cost = nat bound }

-- the drawing in Search.antt: over 1 it is 20 m, over 2 it is 30
abbrev pub drawing : Query
drawing = to_three ((road_between 0 0 1 10 false ∷ road_between 2 0 2 10 false ∷ []) ∷ (road_between 1 1 3 10 false ∷ []) ∷ (road_between 3 2 3 20 false ∷ []) ∷ []) [] 100

-- 0 to 3 over 1 or over 2, both 20 m; the last road over 1 may be an access road
abbrev pub upper : Bool → List Road
upper access = road_between 0 0 1 10 false ∷ road_between 1 1 3 10 access ∷ []

abbrev pub lower : List Road
lower = road_between 2 0 2 10 false ∷ road_between 3 2 3 10 false ∷ []

-- over 1 first in the lists, and over 2 first
abbrev pub upper_first : Query
upper_first = to_three ((road_between 0 0 1 10 false ∷ road_between 2 0 2 10 false ∷ []) ∷ (road_between 1 1 3 10 false ∷ []) ∷ (road_between 3 2 3 10 false ∷ []) ∷ []) [] 100

abbrev pub lower_first : Query
lower_first = to_three ((road_between 2 0 2 10 false ∷ road_between 0 0 1 10 false ∷ []) ∷ (road_between 1 1 3 10 false ∷ []) ∷ (road_between 3 2 3 10 false ∷ []) ∷ []) [] 100

-- only over 1, with a penalty of 10, and a bound that just admits its 20 m
abbrev pub penalised : Query
penalised = to_three ((road_between 0 0 1 10 false ∷ []) ∷ (road_between 1 1 3 10 true ∷ []) ∷ []) [] 20

-- 0 to 1 by an access road of 10 m, or over 4 by 8 and 8; 1 to 2 to 3 by 10 and 10; bound 32. The distances hold 4 back until the goal is
-- labelled over the access road. Then 1 and 2 get cheaper labels over 4, by which the goal would be 36 m away: beyond the bound, so its label stays.
abbrev pub kept_label : Query
kept_label = to_three ((road_between 0 0 1 10 true ∷ road_between 1 0 4 8 false ∷ []) ∷ (road_between 2 1 2 10 false ∷ []) ∷ (road_between 3 2 3 10 false ∷ []) ∷ [] ∷ (road_between 4 4 1 8 false ∷ []) ∷ []) (f0 ∷ f0 ∷ f0 ∷ nat 100 ∷ nat 50 ∷ []) 32

abbrev pub covered : ℕ → ℕ → EdgeCoverage
covered number metres = record { road = road_between number 0 1 100 false; coverage_m = nat metres }

pub record Ties : Type 0 where
  -- an equal entry stays below its parent
  pub equal_parent : push level (0 ∷ []) 1 ≡ 0 ∷ 1 ∷ []
  -- of equal children the right one moves up
  pub equal_children : pop level (0 ∷ 1 ∷ 2 ∷ 3 ∷ []) ≡ 2 ∷ 1 ∷ 3 ∷ []
  -- the search of the drawing
  pub drawn : bounded_astar 4 drawing 0 ≡ found (nat 20) (upper false)
  -- among equal paths the one labelled first stays, in the order of the lists and not of the nodes
  pub first_label : bounded_astar 4 upper_first 0 ≡ found (nat 20) (upper false)
  pub list_order : bounded_astar 4 lower_first 0 ≡ found (nat 20) lower
  -- the start's entry counts too
  pub no_slot : bounded_astar 0 upper_first 0 ≡ full
  -- the search made four entries
  pub one_slot_less : bounded_astar 3 upper_first 0 ≡ full
  -- real length decides the bound
  pub real_bound : bounded_astar 4 penalised 0 ≡ found (nat 20) (upper true)
  -- the cost is the label kept at the goal: 30, where the roads sum to 36
  pub kept_cost : bounded_astar 9 kept_label 0 ≡ found (nat 30) (road_between 1 0 4 8 false ∷ road_between 4 4 1 8 false ∷ road_between 2 1 2 10 false ∷ road_between 3 2 3 10 false ∷ [])
  -- equal sums keep the order of the pairs
  pub equal_sums : sort by_sum (pair (candidate_on 0 0 1) (candidate_on 1 0 2) ∷ pair (candidate_on 2 0 2) (candidate_on 3 0 1) ∷ []) ≡ pair (candidate_on 0 0 1) (candidate_on 1 0 2) ∷ pair (candidate_on 2 0 2) (candidate_on 3 0 1) ∷ []
  -- a pair whose sum reaches the best score ends the pairs: its search would have filled the heap
  pub equal_to_best : try_pairs limits always_full (pair (candidate_on 0 0 1) (candidate_on 1 0 2) ∷ []) score_3 ≡ best (same_edge_path (pair_at 0 0))
  pub below_the_best : try_pairs limits always_full (pair (candidate_on 0 0 1) (candidate_on 1 0 1) ∷ []) score_3 ≡ heap_full
  -- of equal coverages the first is the primary road's
  pub equal_coverage : greater (covered 0 5) (covered 1 5) ≡ covered 0 5
