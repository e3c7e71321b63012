-- The equal parts of alike sheets are needed too: two well-formed sheets that differ in one part alone and are answered differently.
-- proofs/SharpPartsProof.antt has the proofs, by computing.
use Rattle.std.specs.Prelude.{ℕ, ◌+◌, ◌≡◌, List, [], ◌∷◌, ◌++◌, take, drop}
use Rattle.model.specs.Numbers.{nat}
use Rattle.model.specs.Layout.{counts_of, settings_bytes, points_bytes, rows_bytes, distances_bytes}
use Rattle.model.specs.Call.{Lent, decode}
use Rattle.model.specs.Build.{u64_bytes, f64s, settings_with, point, road, row, goal, sheet_bytes}
use Rattle.model.specs.Marked.{lists}
use Rattle.closed.specs.Closed.{is_closed, Agree, open_at, SharedAnswer, refusal, match, shared_answer}
use Rattle.counterexamples.specs.Needed.{shared_answer_of, AnsweredBy, settings_snapping, class_limit_3, last_row_point, row_at_middle}

-- kind, N, and the bytes of settings, points, rows and distances
abbrev pub parts_of : List ℕ → List (List ℕ)
parts_of x =
    ((counts_of x).kind ∷ [])
    ∷ ((counts_of x).n ∷ [])
    ∷ settings_bytes x
    ∷ points_bytes x (counts_of x)
    ∷ rows_bytes x (counts_of x)
    ∷ distances_bytes x (counts_of x)
    ∷ []

-- these but for the one at place k
abbrev pub others : ℕ → List ℕ → List (List ℕ)
others k x = take k (parts_of x) ++ drop (k + 1) (parts_of x)

-- alike but for that part
pub record AlikeBut (k : ℕ) (x y : List ℕ) : Type 0 where
  pub parts : others k x ≡ others k y
  pub agree : Agree is_closed x y
  pub agree_back : Agree is_closed y x
  pub order : (v : ℕ) → open_at is_closed x v ≡ open_at is_closed y v

-- ---- the sheets

-- S1's road, of this kind and these settings, with a first point of this FRC, and the last point at this along
abbrev pub s1_with : ℕ → List ℕ → ℕ → ℕ → List ℕ
s1_with kind settings_snapping frc along = sheet_bytes record {
  kind = kind;
  nodes = 2;
  settings = settings_snapping;
  points = point 50 frc 3 3 1 ∷ last_row_point ∷ [];
  roads = road 700 100 0 1 3 3 0 ∷ [];
  starts = 0 ∷ 1 ∷ 1 ∷ [];
  numbers = 0 ∷ [];
  rows = row 0 0 90 25 100 ∷ row 0 0 90 along 100 ∷ [];
  from_first = 0 ∷ 0 ∷ [];
  from_last = 0 ∷ 0 ∷ [];
  goals = goal 0 (0 ∷ 0 ∷ []) ∷ [];
}

-- snapping off
abbrev pub usual : List ℕ
usual = settings_snapping 0

abbrev pub s1 : List ℕ
s1 = s1_with 1 usual 3 75

-- the same with at most 0 candidates
abbrev pub no_candidates : List ℕ
no_candidates = settings_with 0x3FC9_9999_9999_999A 2 0 0

-- S1's road with so many nodes
abbrev pub s1_nodes : ℕ → List ℕ → List ℕ → List (List ℕ) → List ℕ
s1_nodes nodes starts distances goals = sheet_bytes record {
  kind = 1;
  nodes = nodes;
  settings = settings_snapping 0;
  points = class_limit_3 50 ∷ last_row_point ∷ [];
  roads = road 700 100 0 1 3 3 0 ∷ [];
  starts = starts;
  numbers = 0 ∷ [];
  rows = row 0 0 90 25 100 ∷ row 0 0 90 75 100 ∷ [];
  from_first = distances;
  from_last = distances;
  goals = goals;
}

-- two nodes and two goal rows, in the same 80 bytes as three nodes and one goal row, of the f64 with bits 1, 0 and 0
abbrev pub two_nodes : List ℕ
two_nodes = s1_nodes 2 (0 ∷ 1 ∷ 1 ∷ []) (0 ∷ 0 ∷ []) (goal 0 (0 ∷ 0 ∷ []) ∷ goal 1 (0 ∷ 0 ∷ []) ∷ [])

abbrev pub three_nodes : List ℕ
three_nodes = s1_nodes 3 (0 ∷ 1 ∷ 1 ∷ 1 ∷ []) (0 ∷ 0 ∷ 0 ∷ []) ((u64_bytes 0 ++ u64_bytes 1 ++ f64s (0 ∷ 0 ∷ [])) ∷ [])

-- node areas of two entries
abbrev pub for_two_nodes : Lent
for_two_nodes = record { node = 2; heap = 128; coverage = 256; lists = lists }

-- from road 0 to road 1 over node 4 or over node 5, both 50 m; the goal row has this distance for node 4, and 0 for all others
abbrev pub two_ways : ℕ → List ℕ
two_ways distance = sheet_bytes record {
  kind = 1;
  nodes = 6;
  settings = settings_snapping 0;
  points = class_limit_3 90 ∷ last_row_point ∷ [];
  roads = road 700 40 0 1 3 3 0 ∷ road 701 40 2 3 3 3 0 ∷ road 702 30 1 4 3 3 0 ∷ road 703 20 4 2 3 3 0 ∷ road 704 30 1 5 3 3 0 ∷ road 705 20 5 2 3 3 0 ∷ [];
  starts = 0 ∷ 1 ∷ 3 ∷ 4 ∷ 4 ∷ 5 ∷ 6 ∷ [];
  numbers = 0 ∷ 2 ∷ 4 ∷ 1 ∷ 3 ∷ 5 ∷ [];
  rows = row_at_middle 0 ∷ row_at_middle 1 ∷ [];
  from_first = 0 ∷ 0 ∷ 0 ∷ 0 ∷ 0 ∷ 0 ∷ [];
  from_last = 0 ∷ 0 ∷ 0 ∷ 0 ∷ 0 ∷ 0 ∷ [];
  goals = goal 2 (0 ∷ 0 ∷ 0 ∷ 0 ∷ distance ∷ 0 ∷ []) ∷ [];
}

-- ---- the examples

abbrev pub on_700 : ℕ → SharedAnswer
on_700 metres = match (nat metres) 700 (nat metres)

pub record PartsNeeded : Type 0 where
  -- a line, and a Poi
  pub kind : AnsweredBy shared_answer_of (AlikeBut 0) s1 (s1_with 4 usual 3 75) (on_700 50) (refusal 7 4 0)
  -- N decides which node areas suffice
  pub nodes : AnsweredBy (λ s. shared_answer (decode s for_two_nodes).answer) (AlikeBut 1) two_nodes three_nodes (on_700 50) (refusal 6 0 0)
  -- most candidates 10, and 0
  pub settings : AnsweredBy shared_answer_of (AlikeBut 2) s1 (s1_with 1 no_candidates 3 75) (on_700 50) (refusal 9 0 0)
  -- a first point of class 3, and of class 6
  pub points : AnsweredBy shared_answer_of (AlikeBut 3) s1 (s1_with 1 usual 6 75) (on_700 50) (refusal 9 0 0)
  -- the last projection 75 m along, and 50 m
  pub rows : AnsweredBy shared_answer_of (AlikeBut 4) s1 (s1_with 1 usual 3 50) (on_700 50) (on_700 25)
  -- of two ways of equal length the one over the node that is nearer by the distances is taken
  pub distances : AnsweredBy shared_answer_of (AlikeBut 5) (two_ways 0) (two_ways 9) (match (nat 90) 702 (nat 30)) (match (nat 90) 704 (nat 30))
