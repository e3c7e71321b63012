-- What the code's answers stand for in the definition.
use Rattle.std.specs.Prelude.{ℕ, ◌≤◌, ◌<◌, ◌≡◌, Result, Ok, Err}
use Rattle.model.specs.declared.Counts.{Counts}
use Rattle.model.specs.declared.error.DecodeError.{DecodeError}
use Rattle.model.specs.declared.kind.Kind.{Kind}
use Rattle.model.specs.declared.kind.Kind.TheVariants.{PointAlongLine}
use Rattle.model.specs.Refusals.{number_of}
use Rattle.model.specs.Sheet.{Sheet}
use Rattle.model.specs.View.{view}
use Rattle.model.specs.Search.{bounded_astar}
use Rattle.model.specs.Decode.{Outcome, outcome}
use Rattle.lines.specs.Legs.{refusal, line_outcome, point_along_line_outcome}

-- the outcome of the sheet t with a heap of `slots` entries
abbrev pub outcome_with : Sheet → ℕ → Outcome
outcome_with t slots = outcome (view t) (bounded_astar slots)

-- what the legs of a line or of a point along line come to
abbrev pub legs_of : Kind → Sheet → ℕ → Outcome
legs_of PointAlongLine t slots = point_along_line_outcome t slots
legs_of kind t slots = line_outcome t slots

-- the legs come, of a line or of a point along line, between points with candidates; or the reference is refused, by one of the first nine numbers
abbrev pub AdmissionIs : Sheet → Counts → Result Kind DecodeError → Type 0
AdmissionIs t c (Ok kind) = (0 < c.p) × (0 < c.n) × (kind ≡ PointAlongLine → c.p ≡ 2) × ((slots : ℕ) → outcome_with t slots ≡ legs_of kind t slots)
AdmissionIs t c (Err e) = (number_of e ≤ 9) × ((slots : ℕ) → outcome_with t slots ≡ refusal e)
