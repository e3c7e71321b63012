-- The kinds of reference by their numbers.
use Rattle.std.specs.Prelude.{ℕ, ◌≡◌, false, Result, Ok, Err}
use Rattle.model.specs.declared.kind.Kind.{Kind}
use Rattle.model.specs.declared.kind.Kind.TheVariants.{Line, PointAlongLine, GeoCoordinate, Poi, Circle, Rectangle, Grid, Polygon, ClosedLine}
use Rattle.model.specs.declared.kind.UnknownKind.{UnknownKind}
use Rattle.model.specs.Judge.{known_kind}

abbrev pub kind_number : Kind → ℕ
kind_number Line = 1
kind_number PointAlongLine = 2
kind_number GeoCoordinate = 3
kind_number Poi = 4
kind_number Circle = 5
kind_number Rectangle = 6
kind_number Grid = 7
kind_number Polygon = 8
kind_number ClosedLine = 9

-- the kind with this number, or none where no kind has it
abbrev pub Names : ℕ → Result Kind UnknownKind → Type 0
Names n (Ok kind) = kind_number kind ≡ n
Names n (Err e) = known_kind n ≡ false
