-- Each condition of demand 3 is needed: two well-formed sheets that meet all others and are answered differently.
-- Here are the conditions on roads and those for the whole answer; specs/SharpParts.antt has the equal parts. proofs/SharpProof.antt has the proofs, by computing.
use Rattle.std.specs.Prelude.{ℕ, ◌≡◌, true, false, not, ◌&&◌, ◌||◌, List, [], ◌∷◌, map, eqb}
use Rattle.model.specs.Judge.{Fine}
use Rattle.model.specs.Numbers.{nat}
use Rattle.model.specs.Lists.{any, all}
use Rattle.model.specs.Layout.{counts_of, road_bytes}
use Rattle.model.specs.Judge.{judged}
use Rattle.model.specs.Sheet.{parsed, road_at}
use Rattle.model.specs.View.{is_slip, leg_starts}
use Rattle.model.specs.Call.{Answer, refused, matched, decode}
use Rattle.model.specs.Build.{settings_with, point, road, row, goal, sheet_bytes}
use Rattle.model.specs.Marked.{lent}
use Rattle.closed.specs.Closed.{exceeds, beyond_limit, beyond_every_limit, named, Closing, is_closed, EqualParts, Agree, open_at, AlikeBy, Alike, SharedAnswer, refusal, match, shared_answer, no_zero_length}

-- ---- rules of closing that lack a condition

-- slip roads are closed too
abbrev pub slip_too : Closing
slip_too t i = beyond_every_limit t i && not (named t i)

-- roads that a projection names are closed too
abbrev pub named_too : Closing
named_too t i = not (is_slip (road_at t i)) && beyond_every_limit t i

-- the two conditions that are not about class limits
abbrev pub neither_slip_nor_named : Closing
neither_slip_nor_named t i = not (is_slip (road_at t i)) && not (named t i)

-- one leg's class limit suffices
abbrev pub beyond_one_limit : Closing
beyond_one_limit t i = neither_slip_nor_named t i && any (beyond_limit t i) (leg_starts t)

-- a leg without a class limit does not count
abbrev pub beyond_limits_given : Closing
beyond_limits_given t i = neither_slip_nor_named t i && all (λ p. eqb p.point.limit 255 || beyond_limit t i p) (leg_starts t)

-- the FRC tolerance is not added
abbrev pub beyond_bare_limits : Closing
beyond_bare_limits t i = neither_slip_nor_named t i && all (λ p. exceeds 0 p.point.limit (road_at t i).frc) (leg_starts t)

-- ---- likenesses that lack a condition

-- the roads not closed agree in road number and in all 32 bytes, not in their order
abbrev pub AnyOrder : List ℕ → List ℕ → Type 0
AnyOrder x y = EqualParts x y × Agree is_closed x y × Agree is_closed y x

-- in road number and order, not in their bytes
abbrev pub AnyBytes : List ℕ → List ℕ → Type 0
AnyBytes x y = EqualParts x y × ((v : ℕ) → open_at is_closed x v ≡ open_at is_closed y v)

-- in all 32 bytes and in their order, not in road number
abbrev pub AnyNumbers : List ℕ → List ℕ → Type 0
AnyNumbers x y = EqualParts x y × ((v : ℕ) → map (road_bytes x (counts_of x)) (open_at is_closed x v) ≡ map (road_bytes y (counts_of y)) (open_at is_closed y v))

-- the conditions for the whole answer
abbrev pub SnappingOff : List ℕ → Type 0
SnappingOff x = (parsed x).settings.snap_to_valid_nodes ≡ false

abbrev pub NoZeroLength : List ℕ → Type 0
NoZeroLength x = no_zero_length (parsed x) ≡ true

-- ---- what is answered

abbrev pub shared_answer_of : List ℕ → SharedAnswer
shared_answer_of s = shared_answer (decode s lent).answer

abbrev pub match_count : Answer → ℕ
match_count (refused number a b) = 0
match_count (matched m) = m.count

abbrev pub path_count : List ℕ → ℕ
path_count s = match_count (decode s lent).answer

-- Two well-formed sheets, alike in some sense, and something of the answer to each.
pub record AnsweredBy {A : Type 0} (answer : List ℕ → A) (Like : List ℕ → List ℕ → Type 0) (x y : List ℕ) (a b : A) : Type 0 where
  pub fine : (judged x ≡ Fine) × (judged y ≡ Fine)
  pub like : Like x y
  pub answers : (answer x ≡ a) × (answer y ≡ b)

-- ---- the sheets

-- the Rust's default settings, with snapping 0 or 1
abbrev pub settings_snapping : ℕ → List ℕ
settings_snapping snap = settings_with 0x3FC9_9999_9999_999A 2 snap 10

abbrev pub class_limit_3 : ℕ → List ℕ
class_limit_3 dnp = point dnp 3 3 3 1

abbrev pub last_row_point : List ℕ
last_row_point = point 0 3 3 255 1

-- two roads of 40 m with a gap between them, and roads that may bridge it
abbrev pub gap : List (List ℕ) → List (List ℕ) → List ℕ → List ℕ → List (List ℕ) → List (List ℕ) → List ℕ
gap points more starts numbers rows goals = sheet_bytes record {
  kind = 1;
  nodes = 4;
  settings = settings_snapping 0;
  points = points;
  roads = road 700 40 0 1 3 3 0 ∷ road 701 40 2 3 3 3 0 ∷ more;
  starts = starts;
  numbers = numbers;
  rows = rows;
  from_first = 0 ∷ 0 ∷ 0 ∷ 0 ∷ [];
  from_last = 0 ∷ 0 ∷ 0 ∷ 0 ∷ [];
  goals = goals;
}

abbrev pub row_to_node : ℕ → List ℕ
row_to_node v = goal v (0 ∷ 0 ∷ 0 ∷ 0 ∷ [])

abbrev pub row_at_middle : ℕ → List ℕ
row_at_middle r = row r 0 90 20 40

-- one leg of class limit 3, from the middle of the first road to the middle of the second
abbrev pub over_gap : List (List ℕ) → List ℕ → List ℕ → List ℕ
over_gap more starts numbers = gap (class_limit_3 80 ∷ last_row_point ∷ []) more starts numbers (row_at_middle 0 ∷ row_at_middle 1 ∷ []) (row_to_node 2 ∷ [])

abbrev pub no_bridge : List ℕ
no_bridge = over_gap [] (0 ∷ 1 ∷ 1 ∷ 2 ∷ 2 ∷ []) (0 ∷ 1 ∷ [])

-- with a road of this FRC and FOW over the gap
abbrev pub bridge : ℕ → ℕ → List ℕ
bridge frc fow = over_gap (road 702 40 1 2 frc fow 0 ∷ []) (0 ∷ 1 ∷ 2 ∷ 3 ∷ 3 ∷ []) (0 ∷ 2 ∷ 1 ∷ [])

-- with two roads over the gap, of these ids, in this order
abbrev pub two_bridges : ℕ → ℕ → ℕ → ℕ → List ℕ
two_bridges id other first second = over_gap (road id 40 1 2 3 3 0 ∷ road other 40 1 2 3 3 0 ∷ []) (0 ∷ 1 ∷ 3 ∷ 4 ∷ 4 ∷ []) (0 ∷ first ∷ second ∷ 1 ∷ [])

-- a leg of class limit 3 on the first road, then a leg from this point on the first road to the second
abbrev pub over_two_legs : List ℕ → List (List ℕ) → List ℕ → List ℕ → List ℕ
over_two_legs middle more starts numbers = gap (class_limit_3 10 ∷ middle ∷ last_row_point ∷ []) more starts numbers (row 0 0 90 10 40 ∷ row_at_middle 0 ∷ row_at_middle 1 ∷ []) (row_to_node 0 ∷ row_to_node 2 ∷ [])

abbrev pub two_legs_gap : List ℕ → List ℕ
two_legs_gap middle = over_two_legs middle [] (0 ∷ 1 ∷ 1 ∷ 2 ∷ 2 ∷ []) (0 ∷ 1 ∷ [])

-- with a road of class 7 over the gap
abbrev pub two_legs_bridge : List ℕ → List ℕ
two_legs_bridge middle = over_two_legs middle (road 702 40 1 2 7 3 0 ∷ []) (0 ∷ 1 ∷ 2 ∷ 3 ∷ 3 ∷ []) (0 ∷ 2 ∷ 1 ∷ [])

abbrev pub class_limit_7 : List ℕ
class_limit_7 = point 80 3 3 7 1

abbrev pub no_class_limit : List ℕ
no_class_limit = point 0 3 3 255 1

-- Two roads side by side. The first point, of class 4 and limit 3, has a row on road 0, which has this FRC; the last has one on road 1.
abbrev pub named_road : ℕ → List ℕ
named_road frc = sheet_bytes record {
  kind = 1;
  nodes = 2;
  settings = settings_snapping 0;
  points = point 50 4 3 3 1 ∷ last_row_point ∷ [];
  roads = road 700 40 0 1 frc 3 0 ∷ road 701 40 0 1 3 3 0 ∷ [];
  starts = 0 ∷ 2 ∷ 2 ∷ [];
  numbers = 0 ∷ 1 ∷ [];
  rows = row_at_middle 0 ∷ row_at_middle 1 ∷ [];
  from_first = 0 ∷ 0 ∷ [];
  from_last = 0 ∷ 0 ∷ [];
  goals = goal 0 (0 ∷ 0 ∷ []) ∷ [];
}

-- Two roads side by side, of these ids, with these numbers in the list; both points have equal rows on both.
abbrev pub twins : ℕ → ℕ → List ℕ → List ℕ
twins id other numbers = sheet_bytes record {
  kind = 1;
  nodes = 2;
  settings = settings_snapping 0;
  points = point 20 3 3 3 2 ∷ point 0 3 3 255 2 ∷ [];
  roads = road id 40 0 1 3 3 0 ∷ road other 40 0 1 3 3 0 ∷ [];
  starts = 0 ∷ 2 ∷ 2 ∷ [];
  numbers = numbers;
  rows = row 0 0 90 10 40 ∷ row 1 0 90 10 40 ∷ row 0 0 90 30 40 ∷ row 1 0 90 30 40 ∷ [];
  from_first = 0 ∷ 0 ∷ [];
  from_last = 0 ∷ 0 ∷ [];
  goals = goal 0 (0 ∷ 0 ∷ []) ∷ [];
}

-- S1 with these roads and a third node, to which the last point is nearer than to S1's end
abbrev pub with_roads : ℕ → List (List ℕ) → List ℕ → List ℕ → List ℕ
with_roads snap more starts numbers = sheet_bytes record {
  kind = 1;
  nodes = 3;
  settings = settings_snapping snap;
  points = class_limit_3 50 ∷ last_row_point ∷ [];
  roads = road 700 100 0 1 3 3 0 ∷ more;
  starts = starts;
  numbers = numbers;
  rows = row 0 0 90 25 100 ∷ row 0 0 90 75 100 ∷ [];
  from_first = 0 ∷ 0 ∷ 0 ∷ [];
  from_last = 0 ∷ 9 ∷ 5 ∷ [];
  goals = goal 0 (0 ∷ 0 ∷ 0 ∷ []) ∷ [];
}

abbrev pub one_alone : ℕ → List ℕ
one_alone snap = with_roads snap [] (0 ∷ 1 ∷ 1 ∷ 1 ∷ []) (0 ∷ [])

-- with a road on from S1's end, of this FRC and length
abbrev pub one_longer : ℕ → ℕ → ℕ → List ℕ
one_longer snap frc m = with_roads snap (road 701 m 1 2 frc 3 0 ∷ []) (0 ∷ 1 ∷ 2 ∷ 2 ∷ []) (0 ∷ 1 ∷ [])

-- with an open road of length 0 on from S1's end, and a closed loop before it in the list
abbrev pub looped : List ℕ
looped = with_roads 0 (road 701 0 1 2 3 3 0 ∷ road 702 40 1 1 6 3 0 ∷ []) (0 ∷ 1 ∷ 3 ∷ 3 ∷ []) (0 ∷ 2 ∷ 1 ∷ [])

-- ---- the examples

abbrev pub match_over : ℕ → ℕ → SharedAnswer
match_over metres id = match (nat metres) id (nat 40)

-- The conditions on roads, and well-formedness. Refusal 10 stands for no way over the gap.
pub record ConditionsNeeded : Type 0 where
  -- a closed road is no way: class 6 exceeds limit 3 and tolerance 2
  pub closed : AnsweredBy shared_answer_of Alike no_bridge (bridge 6 3) (refusal 10 0 1) (refusal 10 0 1)
  -- a slip road of that class is not closed
  pub slip : AnsweredBy shared_answer_of (AlikeBy slip_too) no_bridge (bridge 6 6) (refusal 10 0 1) (match_over 80 702)
  -- nor is a road within limit and tolerance
  pub tolerance : AnsweredBy shared_answer_of (AlikeBy beyond_bare_limits) no_bridge (bridge 5 3) (refusal 10 0 1) (match_over 80 702)
  -- nor one whose class number one leg's limit admits
  pub every_leg : AnsweredBy shared_answer_of (AlikeBy beyond_one_limit) (two_legs_gap class_limit_7) (two_legs_bridge class_limit_7) (refusal 10 1 2) (match_over 90 702)
  -- nor any road where a leg has no class limit
  pub no_limit : AnsweredBy shared_answer_of (AlikeBy beyond_limits_given) (two_legs_gap no_class_limit) (two_legs_bridge no_class_limit) (refusal 10 1 2) (match_over 90 702)
  -- nor one that a projection names: its class decides whether it is a candidate
  pub named : AnsweredBy shared_answer_of (AlikeBy named_too) (named_road 6) (named_road 7) (refusal 10 0 1) (refusal 9 0 0)
  -- of two ways of equal length the first in the list is taken
  pub order : AnsweredBy shared_answer_of AnyOrder (two_bridges 702 703 2 3) (two_bridges 702 703 3 2) (match_over 80 702) (match_over 80 703)
  -- the bytes of a road hold its id, among other things
  pub bytes : AnsweredBy shared_answer_of AnyBytes (two_bridges 702 703 2 3) (two_bridges 704 703 2 3) (match_over 80 702) (match_over 80 704)
  -- of two candidates of equal score the lower road number is taken
  pub numbers : AnsweredBy shared_answer_of AnyNumbers (twins 700 701 (0 ∷ 1 ∷ [])) (twins 701 700 (1 ∷ 0 ∷ [])) (match (nat 20) 700 (nat 20)) (match (nat 20) 701 (nat 20))
  -- a sheet that is not well-formed is refused: here the closed road's FRC is 8
  pub well_formed : (judged no_bridge ≡ Fine) × Alike no_bridge (bridge 8 3) × (shared_answer_of no_bridge ≡ refusal 10 0 1) × (shared_answer_of (bridge 8 3) ≡ refusal 4 304 0)

-- The conditions for the whole answer.
pub record WholeAnswerConditionsNeeded : Type 0 where
  -- with snapping on a closed road lengthens the path
  pub snapping : AnsweredBy path_count (λ x y. Alike x y × NoZeroLength x × NoZeroLength y) (one_alone 1) (one_longer 1 6 20) 1 2
  -- with snapping off, too, where it has length 0 on one of the sheets
  pub zero_there : AnsweredBy path_count (λ x y. Alike x y × SnappingOff x × NoZeroLength x) (one_alone 0) (one_longer 0 6 0) 1 2
  pub zero_here : AnsweredBy path_count (λ x y. Alike x y × SnappingOff x × NoZeroLength y) (one_longer 0 6 0) (one_alone 0) 2 1
  -- and where an open road has length 0 on both, a closed one of another length shortens it
  pub zero_both : AnsweredBy path_count (λ x y. Alike x y × SnappingOff x) (one_longer 0 3 0) looped 2 1
  -- where neither is so, it does not
  pub neither : AnsweredBy path_count (λ x y. Alike x y × SnappingOff x × NoZeroLength x × NoZeroLength y) (one_alone 0) (one_longer 0 6 20) 1 1
