-- The first lines of "Points": refusal 9, or on with the legs.
use Rattle.std.specs.Prelude.{ℕ, cond, List, [], ◌∷◌, map, Float, Result, Ok, Err}
use Rattle.model.specs.Numbers.{◌≤ᶠ◌}
use Rattle.model.specs.Lists.{maybe}
use Rattle.model.specs.Sheet.{Sheet}
use Rattle.model.specs.View.{view}
use Rattle.model.specs.Candidates.{Candidate, find_candidates, closest_point}
use Rattle.model.specs.Decode.{Outcome, refused, first_empty}
use Rattle.model.specs.declared.error.DecodeError.{DecodeError}
use Rattle.model.specs.declared.error.DecodeError.TheVariants.{NoCandidates}
use Rattle.model.specs.Refusals.{number_of, place_a, place_b}

-- the candidates of all points
unfoldable pub candidates_of : Sheet → List (List Candidate)
candidates_of t = map (find_candidates (view t).settings) (view t).points

-- nothing is refused, or this point has no candidate that is near enough
abbrev pub Points : Type 0
Points = Result (Unit {0}) DecodeError

abbrev pub no_candidate_of : ℕ → Points
no_candidate_of i = Err (NoCandidates i)

-- the point that the closest-candidate rule refuses, if the least distance is above `most`
unfoldable pub close_enough : Float → List (List Candidate) → Points
close_enough most cs = cond ((closest_point cs).distance ≤ᶠ most) (Ok tt) (no_candidate_of (closest_point cs).point)

-- the points with candidates cs; without points there is nothing to refuse here
unfoldable pub judge_points : Float → List (List Candidate) → Points
judge_points most [] = Ok tt
judge_points most (xs ∷ rest) = maybe (first_empty 0 (xs ∷ rest)) (close_enough most (xs ∷ rest)) no_candidate_of

unfoldable pub points_of : Sheet → Points
points_of t = judge_points t.settings.max_candidate_distance_m (candidates_of t)

-- the refusal, or what the legs give
unfoldable pub after_points : Points → Outcome → Outcome
after_points (Ok _) o = o
after_points (Err e) o = refused (number_of e) (place_a e) (place_b e)
