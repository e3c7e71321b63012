-- The sheet that a well-formed byte sequence holds. Each part is a function of its own section's bytes.
use Rattle.std.specs.Prelude.{ℕ, zero, suc, ◌+◌, ◌-◌, ◌*◌, false, List, [], map, eqb, length, get_or, Float}
use Rattle.model.specs.declared.Counts.{Counts}
use Rattle.model.specs.declared.Settings.{Settings}
use Rattle.model.specs.declared.Point.{Point}
use Rattle.model.specs.declared.Row.{Row}
use Rattle.model.specs.declared.Road.{Road}
use Rattle.model.specs.Numbers.{f0}
use Rattle.model.specs.Lists.{tabulate}
use Rattle.model.specs.Bytes.{u8_at, u16_at, u32_at, u64_at, f64_at}
use Rattle.model.specs.Layout.{counts_of, settings_bytes, points_bytes, road_bytes, rows_bytes, distances_bytes, goal_width}
use Rattle.model.specs.Judge.{start_of, entry_of}

-- A point with its measured rows.
pub record MeasuredPoint : Type 0 where
  pub point : Point
  pub rows : List Row

-- A goal row: the distances of all nodes to a node.
pub record Goal : Type 0 where
  pub node : ℕ
  pub distances : List Float

-- `lists`: for each node the numbers of the roads leaving it, in list order. `from_first`, `from_last`: each node's distance from the first and the last point.
pub record Sheet : Type 0 where
  pub kind : ℕ
  pub nodes : ℕ
  pub settings : Settings
  pub points : List MeasuredPoint
  pub roads : List Road
  pub lists : List (List ℕ)
  pub from_first : List Float
  pub from_last : List Float
  pub goals : List Goal

-- ---- from the bytes

unfoldable pub settings_of : List ℕ → Settings
settings_of b = record {
  search_radius_m = f64_at b 0;
  max_bearing_diff = f64_at b 8;
  max_candidate_distance_m = f64_at b 16;
  distance_weight = f64_at b 24;
  bearing_weight = f64_at b 32;
  frc_weight = f64_at b 40;
  fow_weight = f64_at b 48;
  length_tolerance = f64_at b 56;
  absolute_length_tolerance = f64_at b 64;
  max_search_distance_factor = f64_at b 72;
  slip_road_cost_penalty = f64_at b 80;
  access_road_cost_penalty = f64_at b 88;
  max_snap_extension_m = f64_at b 96;
  frc_tolerance = u8_at b 104;
  snap_to_valid_nodes = eqb (u8_at b 105) 1;
  max_candidates = u16_at b 106;
}

unfoldable pub point_of : List ℕ → ℕ → Point
point_of b i = record { dnp = f64_at b (i * 24); bearing = u16_at b (i * 24 + 8); frc = u8_at b (i * 24 + 10); fow = u8_at b (i * 24 + 11); limit = u8_at b (i * 24 + 12) }

unfoldable pub row_of : List ℕ → ℕ → Row
row_of b k = record { road = u32_at b (k * 40); distance_m = f64_at b (k * 40 + 8); bearing = f64_at b (k * 40 + 16); along_m = f64_at b (k * 40 + 24); length_m = f64_at b (k * 40 + 32) }

-- the row count of point i, and the rows of the points before it, from the points' bytes
unfoldable pub count_in : List ℕ → ℕ → ℕ
count_in b i = u32_at b (i * 24 + 16)

unfoldable pub before_in : List ℕ → ℕ → ℕ
before_in b zero = 0
before_in b (suc i) = before_in b i + count_in b i

-- point i with its rows, from the bytes of the points and of the rows
unfoldable pub measured_point : List ℕ → List ℕ → ℕ → MeasuredPoint
measured_point points rows i = record { point = point_of points i; rows = tabulate (count_in points i) (before_in points i) (row_of rows) }

unfoldable pub road_of : List ℕ → ℕ → Road
road_of b r = record { number = r; id = u64_at b 0; length_m = f64_at b 8; source = u32_at b 16; target = u32_at b 20; frc = u8_at b 24; fow = u8_at b 25; access = eqb (u8_at b 26) 1 }

-- the road numbers in a node's part of the lists
unfoldable pub part : List ℕ → Counts → ℕ → List ℕ
part s c n = tabulate (start_of s c (n + 1) - start_of s c n) (start_of s c n) (entry_of s c)

-- goal row k of a sheet of n nodes, from the bytes of the distances
unfoldable pub goal_of : List ℕ → ℕ → ℕ → Goal
goal_of b n k =
    let at = (n + n) * 8 + k * goal_width n in
    record { node = u32_at b at; distances = tabulate n 0 (λ v. f64_at b (at + 8 + v * 8)) }

unfoldable pub sheet_of : List ℕ → Counts → Sheet
sheet_of s c = record {
  kind = c.kind;
  nodes = c.n;
  settings = settings_of (settings_bytes s);
  points = tabulate c.p 0 (measured_point (points_bytes s c) (rows_bytes s c));
  roads = tabulate c.e 0 (λ r. road_of (road_bytes s c r) r);
  lists = tabulate c.n 0 (part s c);
  from_first = tabulate c.n 0 (λ v. f64_at (distances_bytes s c) (v * 8));
  from_last = tabulate c.n 0 (λ v. f64_at (distances_bytes s c) ((c.n + v) * 8));
  goals = tabulate c.g 0 (goal_of (distances_bytes s c) c.n);
}

-- the sheet that a well-formed byte sequence holds
abbrev pub parsed : List ℕ → Sheet
parsed s = sheet_of s (counts_of s)

-- ---- its roads

abbrev pub no_road : Road
no_road = record { number = 0; id = 0; length_m = f0; source = 0; target = 0; frc = 0; fow = 0; access = false }

abbrev pub road_at : Sheet → ℕ → Road
road_at t r = get_or t.roads r no_road

-- the numbers of all roads, rising
abbrev pub numbers : Sheet → List ℕ
numbers t = tabulate (length t.roads) 0 (λ r. r)

-- the roads leaving a node, in list order
abbrev pub list_at : Sheet → ℕ → List ℕ
list_at t v = get_or t.lists v []

abbrev pub leaving_roads : Sheet → ℕ → List Road
leaving_roads t v = map (road_at t) (list_at t v)
