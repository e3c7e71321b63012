-- The lent areas by their sizes, the answer and the two answer lists, as the definition has them.
use Rattle.std.specs.Prelude.{ℕ, List, Result, Ok, Err, Float}
use Rattle.model.specs.Call.{Lists, Lent, refused, matched, Decoded}
use Rattle.model.specs.Call as call
use Rattle.answers.specs.declared.Sizes.{Sizes}
use Rattle.answers.specs.declared.Match.{Match}
use Rattle.model.specs.declared.error.DecodeError.{DecodeError}
use Rattle.model.specs.Refusals.{number_of, place_a, place_b}

-- what a call is lent: areas of these sizes, and the lists l
abbrev pub lent_of : Sizes → Lists → Lent
lent_of a l = record { node = a.node; heap = a.heap; coverage = a.coverage; lists = l }

-- the answer lists of a call
abbrev pub lists : List ℕ → List Float → Lists
lists ids lengths = record { ids = ids; lengths = lengths }

-- a match as the definition has it
abbrev pub match_of : Match → call.Match
match_of m = record {
  count = m.count;
  length_m = m.length_m;
  start_offset = m.start_offset;
  start_fraction = m.start_fraction;
  end_offset = m.end_offset;
  end_fraction = m.end_fraction;
  primary = m.primary;
  coverage = m.coverage;
}

-- the answer as the definition has it: a refusal by its number and places
unfoldable pub answer_of : Result Match DecodeError → call.Answer
answer_of (Err e) = refused (number_of e) (place_a e) (place_b e)
answer_of (Ok m) = matched (match_of m)

abbrev pub decoded : Result Match DecodeError → List ℕ → List Float → Decoded
decoded r ids lengths = record { answer = answer_of r; lists = lists ids lengths }
