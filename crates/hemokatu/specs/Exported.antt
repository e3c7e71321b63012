-- What a C host sees: the version, the judge's verdict, the least sizes of the areas, and the answer, as numbers.
use Rattle.std.specs.Prelude.{ℕ, ◌≤◌, ◌≡◌, cond, ◌&&◌, List, leb, Float, Result}
use Rattle.model.specs.Judge.{Judged}
use Rattle.model.specs.Judge.{Fine, Refused}
use Rattle.model.specs.Numbers.{f0}
use Rattle.model.specs.Layout.{most_points, most_nodes}
use Rattle.model.specs.Call.{Lent, Answer, refused, matched, Decoded, most_entries, decode}
use Rattle.model.specs.declared.error.DecodeError.{DecodeError}
use Rattle.answers.specs.declared.Match.{Match}
use Rattle.answers.specs.Room.{lists, answer_of}
use Rattle.hemokatu.specs.declared.Judgement.{Judgement}
use Rattle.hemokatu.specs.declared.Sizes.{Sizes}
use Rattle.hemokatu.specs.declared.Answered.{Answered}

-- 0.2.0
abbrev pub version : ℕ
version = 200

-- number 0 for a well-formed sheet
abbrev pub judgement_of : Judged → Judgement
judgement_of Fine = record { number = 0; place = 0 }
judgement_of (Refused number at) = record { number = number; place = at }

-- what refusal 6 asks of the areas; zeros for counts above their limits, which refusal 2 names first
abbrev pub sizes_of : ℕ → ℕ → Sizes
sizes_of points nodes = cond (leb points most_points && leb nodes most_nodes)
    (record { node = nodes; heap_least = 1; list = most_entries points nodes })
    (record { node = 0; heap_least = 0; list = 0 })

-- number 0 for a match; zeros beside a refusal's number, A and B
abbrev pub answered_of : Answer → Answered
answered_of (refused n a b) = record {
  number = n;
  a = a;
  b = b;
  count = 0;
  length_m = f0;
  start_offset = f0;
  start_fraction = f0;
  end_offset = f0;
  end_fraction = f0;
  primary = 0;
  coverage = f0;
}
answered_of (matched m) = record {
  number = 0;
  a = 0;
  b = 0;
  count = m.count;
  length_m = m.length_m;
  start_offset = m.start_offset;
  start_fraction = m.start_fraction;
  end_offset = m.end_offset;
  end_fraction = m.end_fraction;
  primary = m.primary;
  coverage = m.coverage;
}

-- r is the answer a as numbers
abbrev pub IsAnswered : Result Match DecodeError → Answered → Type 0
IsAnswered a r = r ≡ answered_of (answer_of a)

-- a call gave r and left the lists ids and lengths, as the definition says
abbrev pub AnsweredAs : Answered → List ℕ → List Float → Decoded → Type 0
AnsweredAs r ids lengths d = (r ≡ answered_of d.answer) × (lists ids lengths ≡ d.lists)

-- a refusal's number is one of the table's, so number 0 tells a match
abbrev pub InTable : ℕ → Type 0
InTable n = (1 ≤ n) × (n ≤ 11)

abbrev pub NumberedTheorem : Type 0
NumberedTheorem = (s : List ℕ) (lent : Lent) (n x y : ℕ) → (decode s lent).answer ≡ refused n x y → InTable n
