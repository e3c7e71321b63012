-- The rows of a point that are still to be read.
use Rattle.std.specs.Prelude.{ℕ, ◌-◌, List, map}
use Rattle.model.specs.declared.Counts.{Counts}
use Rattle.model.specs.declared.Settings.{Settings}
use Rattle.model.specs.declared.Point.{Point}
use Rattle.model.specs.Lists.{filter_map, tabulate}
use Rattle.model.specs.Layout.{rows_bytes}
use Rattle.model.specs.Sheet.{row_of, sheet_of}
use Rattle.model.specs.View.{projection_of}
use Rattle.model.specs.Candidates.{candidate}
use Rattle.candidates.specs.declared.candidate.Candidate as code
use Rattle.candidates.specs.Found.{by_number}

-- the candidates of those from row k on, before row e
unfoldable pub left : List ℕ → Counts → Settings → Point → ℕ → ℕ → List code.Candidate
left s c set p k e = map by_number (filter_map (candidate set p) (map (projection_of (sheet_of s c)) (tabulate (e - k) k (row_of (rows_bytes s c)))))
