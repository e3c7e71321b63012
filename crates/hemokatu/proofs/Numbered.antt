-- Every refusal of a call has a number from 1 to 11: the definition is followed from the judge to the legs.
use Rattle.std.proofs.Common.{ℕ, ◌≡◌, ◌+◌, ◌-◌, List, [], ◌∷◌, map, length, refl, subst, arith, eqb, ltb}
use Rattle.std.proofs.Math.Option.{Option, none, some}
use Rattle.model.specs.Judge.{Judged, Fine, Refused, judged}
use Rattle.model.specs.Numbers.{◌≤ᶠ◌}
use Rattle.model.specs.Lists.{maybe}
use Rattle.model.specs.Layout.{point_along_line}
use Rattle.model.specs.Sheet.{Sheet, parsed}
use Rattle.model.specs.View.{Leg, View, view}
use Rattle.model.specs.Search.{Search, bounded_astar}
use Rattle.model.specs.Candidates.{Candidate, find_candidates, closest_point}
use Rattle.model.specs.Legs.{EdgeCoverage, PathResult, LegEnd, best, no_path, heap_full}
use Rattle.model.specs.Decode.{FullPath, Outcome, no_path_yet, extended, path_of_leg, primary_edge, with_primary, after_leg, decode_line, decode_point_along_line, decode_legs, first_empty, require_close_candidate, decode_points, outcome}
use Rattle.model.specs.Decode as outcomes
use Rattle.model.specs.Call.{Lists, Lent, Answer, Decoded, refused, matched, answered, has_room, untouched, decode_by, decode_sheet, after_judging, decode}
use Rattle.model.proofs.Members.{either}
use Rattle.decoder.proofs.Judged.{early}
use Rattle.hemokatu.specs.Exported.{InTable, NumberedTheorem}

-- ---- the legs

abbrev Well : Outcome → Type 0
Well (outcomes.refused n a b) = InTable n
Well (outcomes.matched k c) = Unit {0}

primary_well : (points : ℕ) (k : FullPath) → Well (with_primary points k)
unfolding with_primary maybe
primary_well points k = go (primary_edge k.coverages)
  where
    go : (o : Option EdgeCoverage) → Well (maybe o (outcomes.refused 10 0 (points - 1)) (outcomes.matched k))
    go none = (omega arith, omega arith)
    go (some c) = tt

leg_well : (i : ℕ) (f : LegEnd) (next : PathResult → Outcome) → ((r : PathResult) → Well (next r)) → Well (after_leg i f next)
unfolding after_leg
leg_well i (best r) next h = h r
leg_well i no_path next h = (omega arith, omega arith)
leg_well i heap_full next h = (omega arith, omega arith)

line_well : (v : View) (find : Search) (i : ℕ) (k : FullPath) (xs : List Candidate) (legs : List Leg) (rest : List (List Candidate)) → Well (decode_line v find i k xs legs rest)
unfolding decode_line
line_well v find i k xs [] rest = primary_well _ k
line_well v find i k xs (leg ∷ legs) [] = primary_well _ k
line_well v find i k xs (leg ∷ legs) (ys ∷ rest) = leg_well i _ _ (λ r. line_well v find (i + 1) (extended i k leg r) ys legs rest)

point_well : (v : View) (find : Search) (xs : List Candidate) (legs : List Leg) (rest : List (List Candidate)) → Well (decode_point_along_line v find xs legs rest)
unfolding decode_point_along_line
point_well v find xs [] rest = primary_well 2 no_path_yet
point_well v find xs (leg ∷ legs) [] = primary_well 2 no_path_yet
point_well v find xs (leg ∷ legs) (ys ∷ rest) = leg_well 0 _ _ (λ r. primary_well 2 (path_of_leg leg r))

legs_well : (v : View) (find : Search) (cs : List (List Candidate)) → Well (decode_legs v find cs)
unfolding decode_legs
legs_well v find [] = (omega arith, omega arith)
legs_well v find (xs ∷ rest) = either Well (eqb v.kind point_along_line) (point_well v find xs v.legs rest) (line_well v find 0 no_path_yet xs v.legs rest)

close_well : (v : View) (find : Search) (cs : List (List Candidate)) → Well (require_close_candidate v find cs)
unfolding require_close_candidate
close_well v find cs =
    either Well ((closest_point cs).distance ≤ᶠ v.settings.max_candidate_distance_m) (legs_well v find cs) (omega arith, omega arith)

points_well : (v : View) (find : Search) (cs : List (List Candidate)) → Well (decode_points v find cs)
unfolding decode_points maybe
points_well v find [] = (omega arith, omega arith)
points_well v find (xs ∷ rest) = go (first_empty 0 (xs ∷ rest))
  where
    go : (o : Option ℕ) → Well (maybe o (require_close_candidate v find (xs ∷ rest)) (λ i. outcomes.refused 9 i 0))
    go none = close_well v find (xs ∷ rest)
    go (some i) = (omega arith, omega arith)

outcome_well : (v : View) (find : Search) → Well (outcome v find)
unfolding outcome
outcome_well v find = either Well (ltb point_along_line v.kind) (omega arith, omega arith) (points_well v find (map (find_candidates v.settings) v.points))

-- ---- the call

abbrev AnswerWell : Answer → Type 0
AnswerWell (refused n a b) = InTable n
AnswerWell (matched m) = Unit {0}

answered_well : (t : Sheet) (l : Lists) (o : Outcome) → Well o → AnswerWell (answered t l o).answer
unfolding answered
answered_well t l (outcomes.refused n a b) h = h
answered_well t l (outcomes.matched k c) h = tt

sheet_well : (t : Sheet) (lent : Lent) → AnswerWell (decode_sheet t lent).answer
unfolding decode_sheet decode_by untouched
sheet_well t lent = either (λ (d : Decoded). AnswerWell d.answer) (has_room (length t.points) t.nodes lent) (answered_well t lent.lists _ (outcome_well (view t) (bounded_astar lent.heap))) (omega arith, omega arith)

call_well : (s : List ℕ) (lent : Lent) → AnswerWell (decode s lent).answer
unfolding decode after_judging untouched
call_well s lent = go (judged s) refl
  where
    go : (j : Judged) → judged s ≡ j → AnswerWell (after_judging j s lent.lists (λ t. decode_sheet t lent)).answer
    go (Refused n at) e = let k = early s n at e in (k.0, omega arith)
    go Fine e = sheet_well (parsed s) lent

pub numbered : NumberedTheorem
numbered s lent n x y e = subst AnswerWell e (call_well s lent)
