-- What the judge returns, as the definition's verdict.
use Rattle.std.specs.Prelude.{Result, Ok, Err}
use Rattle.model.specs.declared.error.DecodeError.{DecodeError}
use Rattle.model.specs.Refusals.{number_of, place_a}
use Rattle.model.specs.Judge.{Judged, Fine, Refused}
use Rattle.sheet.specs.declared.Sheet.{Sheet}

abbrev pub judged_as : Result Sheet DecodeError → Judged
judged_as (Ok sheet) = Fine
judged_as (Err e) = Refused (number_of e) (place_a e)
