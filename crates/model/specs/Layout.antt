-- "The sheet": the header's counts, their limits, and where the sections begin.
use Rattle.std.specs.Prelude.{ℕ, ◌+◌, ◌*◌, List}
use Rattle.model.specs.declared.Counts.{Counts}
use Rattle.model.specs.Bytes.{u32_at, section}

-- The greatest counts. Nothing else states them.
abbrev pub most_points : ℕ
most_points = 16

abbrev pub most_nodes : ℕ
most_nodes = 1024

abbrev pub most_roads : ℕ
most_roads = 4096

abbrev pub most_rows : ℕ
most_rows = 1024

abbrev pub most_goals : ℕ
most_goals = 1024

-- The most rows of one point, and the most candidates.
abbrev pub most_measured : ℕ
most_measured = 64

-- The kinds: 1 line, 2 point along line, 3 to 9 GeoCoordinate, Poi, Circle, Rectangle, Grid, Polygon, ClosedLine.
abbrev pub line : ℕ
line = 1

abbrev pub point_along_line : ℕ
point_along_line = 2

abbrev pub last_kind : ℕ
last_kind = 9

-- The header is 14 u32: kind, P, N, E, M, G; six offsets; the total; zero.
abbrev pub header_size : ℕ
header_size = 56

unfoldable pub counts_of : List ℕ → Counts
counts_of s = record { kind = u32_at s 0; p = u32_at s 4; n = u32_at s 8; e = u32_at s 12; m = u32_at s 16; g = u32_at s 20 }

-- ---- where the sections begin

abbrev pub settings_at : ℕ
settings_at = 56

abbrev pub points_at : ℕ
points_at = 168

abbrev pub roads_at : Counts → ℕ
roads_at c = 168 + c.p * 24

-- the lists: N + 1 start positions, then E road numbers
abbrev pub lists_at : Counts → ℕ
lists_at c = roads_at c + c.e * 32

abbrev pub numbers_at : Counts → ℕ
numbers_at c = lists_at c + (c.n + 1) * 4

abbrev pub rows_at : Counts → ℕ
rows_at c = numbers_at c + c.e * 4

-- the distances: N from the first point, N from the last (for P = 0 too), then the goal rows
abbrev pub distances_at : Counts → ℕ
distances_at c = rows_at c + c.m * 40

abbrev pub goals_at : Counts → ℕ
goals_at c = distances_at c + (c.n + c.n) * 8

-- the bytes of a goal row on a sheet of n nodes
abbrev pub goal_width : ℕ → ℕ
goal_width n = 8 + n * 8

abbrev pub total : Counts → ℕ
total c = goals_at c + c.g * goal_width c.n

-- ---- the sections' bytes

abbrev pub settings_bytes : List ℕ → List ℕ
settings_bytes s = section settings_at 112 s

abbrev pub points_bytes : List ℕ → Counts → List ℕ
points_bytes s c = section points_at (c.p * 24) s

abbrev pub road_bytes : List ℕ → Counts → ℕ → List ℕ
road_bytes s c r = section (roads_at c + r * 32) 32 s

abbrev pub rows_bytes : List ℕ → Counts → List ℕ
rows_bytes s c = section (rows_at c) (c.m * 40) s

abbrev pub distances_bytes : List ℕ → Counts → List ℕ
distances_bytes s c = section (distances_at c) ((c.n + c.n) * 8 + c.g * goal_width c.n) s
