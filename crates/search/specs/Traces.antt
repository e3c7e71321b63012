-- The numbers of the roads that a trace leads over.
use Rattle.std.specs.Prelude.{ℕ, List, [], Option, Some, None}
use Rattle.model.specs.Sheet.{road_at}
use Rattle.sheet.specs.Contents.{contents}
use Rattle.search.specs.Areas.{back_way}
use Rattle.search.specs.declared.route.Trace.{Trace}

-- in travel order
abbrev pub trace_numbers : Trace → List ℕ
trace_numbers x = back_way (road_at (contents x.sheet)) x.came_from.now x.count x.goal

-- of a middle that has been traced, if there is one
abbrev pub traced_numbers : Option Trace → List ℕ
traced_numbers None = []
traced_numbers (Some x) = trace_numbers x
