-- What a leg leaves: its roads behind those already written, and the metres covered of each road, both by the numbers of the roads.
use Rattle.std.specs.Prelude.{ℕ, ◌+◌, ◌≤◌, ◌<◌, ◌≡◌, cond, List, [], ◌∷◌, ◌++◌, map, eqb, length, take, drop, Float, Option, Some, None}
use Rattle.std.proofs.Math.Option as definition
use Rattle.std.specs.List.{zip}
use Rattle.model.specs.declared.Counts.{Counts}
use Rattle.model.specs.Lists.{last, maybe, fold}
use Rattle.model.specs.Sheet.{Sheet, road_at}
use Rattle.model.specs.Legs as legs
use Rattle.model.specs.Decode.{cover}
use Rattle.rules.specs.declared.Middle.{Middle}
use Rattle.rules.specs.declared.TerminalEdge.{TerminalEdge}
use Rattle.rules.specs.declared.PathResult.{PathResult}
use Rattle.rules.specs.Code.{with_middle}
use Rattle.search.specs.Answers.{RoadNumbers}
use Rattle.full_path.specs.declared.EdgeCoverage.{EdgeCoverage}
use Rattle.full_path.specs.declared.Covering.{Covering}
use Rattle.full_path.specs.declared.Covering.TheVariants.{PerRoad, PerPass}
use Rattle.full_path.specs.declared.Coverages.{Coverages}

-- how many roads a middle has
abbrev pub count_of : Option Middle → ℕ
count_of None = 0
count_of (Some m) = m.count

-- ---- a route on the sheet t, whose middle has the roads ks

abbrev pub path_of : Sheet → PathResult → List ℕ → legs.PathResult
path_of t r ks = with_middle r (map (road_at t) ks)

-- its coverages
abbrev pub covers : Sheet → PathResult → List ℕ → List legs.EdgeCoverage
covers t r ks = (path_of t r ks).coverages

-- how many roads its middle has
abbrev pub middle_count : PathResult → ℕ
middle_count r = count_of r.middle

-- a terminal road that is kept is one of the sheet's e roads
abbrev pub Own : Sheet → ℕ → Option TerminalEdge → Type 0
Own t e None = Unit {0}
Own t e (Some p) = (p.road.number < e) × (road_at t p.road.number ≡ p.road)

-- A route over roads of the sheet: fewer in its middle than there are nodes.
pub record Known (t : Sheet) (c : Counts) (r : PathResult) (ks : List ℕ) : Type 0 where
  pub few : length ks < c.n
  pub numbers : RoadNumbers c.e (length ks) ks
  pub head : Own t c.e r.head
  pub tail : Own t c.e r.tail

-- ---- the path, by road numbers

-- of a terminal road that is kept
abbrev pub terminal_numbers : Option TerminalEdge → List ℕ
terminal_numbers None = []
terminal_numbers (Some p) = p.road.number ∷ []

-- of a route's roads in travel order
abbrev pub numbers_of : PathResult → List ℕ → List ℕ
numbers_of r ks = terminal_numbers r.head ++ ks ++ terminal_numbers r.tail

-- a number as the definition has it
abbrev pub number_as : Option ℕ → definition.Option ℕ
number_as None = definition.none
number_as (Some k) = definition.some k

-- what is written of a leg's roads behind the road o: a first one equal to it is skipped
unfoldable pub unwritten : definition.Option ℕ → List ℕ → List ℕ
unwritten o [] = []
unwritten o (x ∷ xs) = maybe o (x ∷ xs) (λ y. cond (eqb y x) xs (x ∷ xs))

-- A leg's roads ns behind the first n of `ids`, from the place `from` on: there, or over the last one where it is the first of them.
pub record Appended (ids : List ℕ) (n : ℕ) (ns ids₁ : List ℕ) (from : ℕ) : Type 0 where
  pub size : length ids₁ ≡ length ids
  pub near : (from ≤ n) × (n ≤ from + 1)
  pub behind : n ≤ from + length ns
  pub path : take (from + length ns) ids₁ ≡ take n ids ++ unwritten (last (take n ids)) ns
  pub roads : take (length ns) (drop from ids₁) ≡ ns

-- ---- coverage

-- a coverage by its road's number
abbrev pub coverage_of : Sheet → EdgeCoverage → legs.EdgeCoverage
coverage_of t k = record { road = road_at t k.edge_idx; coverage_m = k.coverage_m }

-- the first e roads have their own numbers
abbrev pub Numbered : Sheet → ℕ → Type 0
Numbered t e = (k : ℕ) → k < e → (road_at t k).number ≡ k

-- the entries of two lists
abbrev pub paired : List ℕ → List Float → List EdgeCoverage
paired roads metres = map (λ p. record { edge_idx = p.0; coverage_m = p.1 }) (zip roads metres)

-- those that the areas stand for
abbrev pub coverages_at : Sheet → Coverages → List legs.EdgeCoverage
coverages_at t x = map (coverage_of t) (paired (take x.count x.roads.now) (take x.count x.metres.now))

-- as many as there are metres, with the first of the roads
abbrev pub Covers : Coverages → List ℕ → List Float → Type 0
Covers x roads metres = (x.count ≡ length metres) × (take x.count x.roads.now ≡ take x.count roads) × (take x.count x.metres.now ≡ metres)

-- they are of the sheet's e roads
abbrev pub OnRoads : ℕ → Coverages → Type 0
OnRoads e x = RoadNumbers e x.count x.roads.now

-- the areas keep their sizes
abbrev pub SameAreas : Coverages → Coverages → Type 0
SameAreas x y = (length y.roads.now ≡ length x.roads.now) × (length y.metres.now ≡ length x.metres.now)

-- there is room for n more
abbrev pub RoomFor : ℕ → Coverages → Type 0
RoomFor n x = (x.count + n ≤ length x.roads.now) × (x.count + n ≤ length x.metres.now)

-- one coverage more, summed or as an entry of its own
unfoldable pub cover_with : Covering → List legs.EdgeCoverage → legs.EdgeCoverage → List legs.EdgeCoverage
cover_with PerRoad ks k = cover ks k
cover_with PerPass ks k = ks ++ k ∷ []

-- for a line summed per road in order of first traversal, for a point along line one entry each
abbrev pub cover_all : Covering → List legs.EdgeCoverage → List legs.EdgeCoverage → List legs.EdgeCoverage
cover_all covering ks cs = fold (cover_with covering) ks cs

-- the primary road
abbrev pub primary_of : Sheet → Option EdgeCoverage → definition.Option legs.EdgeCoverage
primary_of t None = definition.none
primary_of t (Some k) = definition.some (coverage_of t k)

-- it is one of the sheet's e roads
abbrev pub Within : ℕ → Option EdgeCoverage → Type 0
Within e None = Unit {0}
Within e (Some k) = k.edge_idx < e
