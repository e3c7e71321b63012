-- One call, on any byte sequence: the answer, and both answer lists afterwards.
use Rattle.std.specs.Prelude.{ℕ, ◌+◌, ◌*◌, Bool, cond, List, [], ◌∷◌, map, leb, length, Float}
use Rattle.model.specs.Judge.{Judged}
use Rattle.model.specs.Judge.{Fine, Refused}
use Rattle.model.specs.Numbers.{f0}
use Rattle.model.specs.Lists.{head, last, pad}
use Rattle.model.specs.Table.{all_of}
use Rattle.model.specs.Judge.{judged}
use Rattle.model.specs.Sheet.{Sheet, road_at, parsed}
use Rattle.model.specs.View.{view}
use Rattle.model.specs.Search.{Search, bounded_astar}
use Rattle.model.specs.Legs.{EdgeCoverage}
use Rattle.model.specs.Decode.{FullPath, Outcome, outcome}
use Rattle.model.specs.Decode as outcomes
use Rattle.model.specs.Ends.{FinalPath, finalize_path, offset_fraction}

-- The two answer lists.
pub record Lists : Type 0 where
  pub ids : List ℕ
  pub lengths : List Float

-- What a call is lent: the sizes of the work areas in entries, and the answer lists as they are at entry.
-- Nothing else of the areas matters: no result depends on what stands in them.
pub record Lent : Type 0 where
  pub node : ℕ
  pub heap : ℕ
  pub coverage : ℕ
  pub lists : Lists

-- Path count, length (the leg sum), offset and fraction at both ends, primary road and its coverage.
pub record Match : Type 0 where
  pub count : ℕ
  pub length_m : Float
  pub start_offset : Float
  pub start_fraction : Float
  pub end_offset : Float
  pub end_fraction : Float
  pub primary : ℕ
  pub coverage : Float

-- All that the call returns: a refusal's number, A and B, or a match.
pub data Answer : Type 0 where
  refused : ℕ → ℕ → ℕ → Answer
  matched : Match → Answer

pub record Decoded : Type 0 where
  pub answer : Answer
  pub lists : Lists

-- ids and lengths of the path, and zeros after them
unfoldable pub written : Sheet → List ℕ → Lists → Lists
written t path l = record {
  ids = pad (length l.ids) 0 (map (λ r. (road_at t r).id) path);
  lengths = pad (length l.lengths) f0 (map (λ r. (road_at t r).length_m) path);
}

unfoldable pub match_of : Sheet → FullPath → EdgeCoverage → FinalPath → Match
match_of t k c e = record {
  count = length e.path;
  length_m = k.total_length;
  start_offset = e.start_offset;
  start_fraction = offset_fraction t e.start_offset (head e.path);
  end_offset = e.end_offset;
  end_fraction = offset_fraction t e.end_offset (last e.path);
  primary = c.road.id;
  coverage = c.coverage_m;
}

-- refusals 7 to 11 zero the lists; a match zeroes what is behind the path
unfoldable pub answered : Sheet → Lists → Outcome → Decoded
answered t l (outcomes.refused n a b) = record { answer = refused n a b; lists = written t [] l }
answered t l (outcomes.matched k c) =
    let e = finalize_path t k in
    record { answer = matched (match_of t k c e); lists = written t e.path l }

-- the entries that the coverage area and each answer list must have
abbrev pub most_entries : ℕ → ℕ → ℕ
most_entries points nodes = (points + 4) * (nodes + 1)

-- what refusal 6 asks of what is lent
unfoldable pub has_room : ℕ → ℕ → Lent → Bool
has_room points nodes lent = all_of
    (leb nodes lent.node
    ∷ leb 1 lent.heap
    ∷ leb (most_entries points nodes) lent.coverage
    ∷ leb (most_entries points nodes) (length lent.lists.ids)
    ∷ leb (most_entries points nodes) (length lent.lists.lengths)
    ∷ [])

-- refusals 1 to 6 leave both lists untouched
unfoldable pub untouched : ℕ → ℕ → Lists → Decoded
untouched number at l = record { answer = refused number at 0; lists = l }

-- a parsed sheet decoded by some search
unfoldable pub decode_by : Search → Sheet → Lent → Decoded
decode_by search t lent = cond (has_room (length t.points) t.nodes lent) (answered t lent.lists (outcome (view t) search)) (untouched 6 0 lent.lists)

unfoldable pub decode_sheet : Sheet → Lent → Decoded
decode_sheet t lent = decode_by (bounded_astar lent.heap) t lent

-- refusals 1 to 5, or on with the parsed sheet
unfoldable pub after_judging : Judged → List ℕ → Lists → (Sheet → Decoded) → Decoded
after_judging (Refused number at) s l next = untouched number at l
after_judging Fine s l next = next (parsed s)

unfoldable pub decode : List ℕ → Lent → Decoded
decode s lent = after_judging (judged s) s lent.lists (λ t. decode_sheet t lent)
