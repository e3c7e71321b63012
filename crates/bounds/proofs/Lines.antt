-- What holds before the first leg, and is kept by each leg that finds a path with P, holds of every full path that is matched; and the primary road's coverage is one of the full path's.
use Prim.Native.Nat.{ℕ, ◌+◌, ◌-◌, ◌≤◌}
use mathlib.Core.Path.{◌≡◌, refl, subst}
use mathlib.Core.Option.{Option, none, some, some-injective, none-ne-some}
use mathlib.Core.List.Memᴰ
use mathlib.Core.List.{List, [], ◌∷◌, map}
use native.Mathlib.Omega.{arith}
use lib.Dec.{eqb, ltb}
use lib.ListN.{length}
use Rattle.model.specs.Numbers.{◌<ᶠ◌, ◌≤ᶠ◌}
use Rattle.model.specs.Lists.{In, maybe, fold}
use Rattle.model.specs.Layout.{point_along_line}
use Rattle.model.specs.View.{Leg, View}
use Rattle.model.specs.Candidates.{Candidate, find_candidates, closest_point}
use Rattle.model.specs.Search.{Search}
use Rattle.model.specs.Legs.{EdgeCoverage, PathResult, LegEnd, best, no_path, heap_full, find_best_path}
use Rattle.model.specs.Decode.{middle_search, FullPath, no_path_yet, extended, path_of_leg, greater, primary_edge, Outcome, refused, matched, with_primary, after_leg, decode_line, decode_point_along_line, decode_legs, first_empty, require_close_candidate, decode_points, outcome}
use Rattle.model.proofs.Members.{here, either, fold_holds}
use Rattle.bounds.proofs.Legs.{Finds}

-- ---- the primary road

primary_in : (xs : List EdgeCoverage) (c : EdgeCoverage) → primary_edge xs ≡ some c → In c xs
unfolding primary_edge greater
primary_in [] c e = absurd (none-ne-some c e)
primary_in (x ∷ xs) c e =
    subst (λ (z : EdgeCoverage). In z (x ∷ xs)) (some-injective (fold greater x xs) c e)
    (fold_holds (λ (z : EdgeCoverage). In z (x ∷ xs)) greater x xs here (λ y m z k. either (λ (u : EdgeCoverage). In u (x ∷ xs)) (z.coverage_m <ᶠ y.coverage_m) (Memᴰ.tail m) k))

-- ---- laws of full paths

-- I n k: what holds of the full path k after n legs; paths with P keep it.
pub record Kept (P : PathResult → Type 0) (I : ℕ → FullPath → Type 0) : Type 0 where
  pub begins : I 0 no_path_yet
  pub extends : (i : ℕ) (k : FullPath) (leg : Leg) (r : PathResult) → I i k → P r → I (i + 1) (extended i k leg r)
  pub same_edge : (leg : Leg) (r : PathResult) → P r → I 1 (path_of_leg leg r)

-- It holds of the full path k after at most `most` legs, and c is one of its coverages.
pub record Met (I : ℕ → FullPath → Type 0) (most : ℕ) (k : FullPath) (c : EdgeCoverage) : Type 0 where
  pub legs : ℕ
  pub few : legs ≤ most
  pub holds : I legs k
  pub primary : In c k.coverages

-- the candidates of all points
abbrev pub candidates_of : View → List (List Candidate)
candidates_of v = map (find_candidates v.settings) v.points

module _ (P : PathResult → Type 0) (I : ℕ → FullPath → Type 0) (kept : Kept P I) (v : View) (search : Search) (legs_find : (leg : Leg) (xs ys : List Candidate) → In leg v.legs → In xs (candidates_of v) → In ys (candidates_of v) → Finds P (find_best_path leg.limits (middle_search v search leg) xs ys)) where
  abbrev MetIf : Outcome → Type 0
  MetIf (refused n a b) = Unit {0}
  MetIf (matched k c) = Met I (length v.legs) k c

  primary_met : (points i : ℕ) (k : FullPath) → i ≤ length v.legs → I i k → MetIf (with_primary points k)
  unfolding with_primary maybe
  primary_met points i k few h = go (primary_edge k.coverages) refl
    where
      go : (o : Option EdgeCoverage) → primary_edge k.coverages ≡ o → MetIf (maybe o (refused 10 0 (points - 1)) (matched k))
      go none e = tt
      go (some c) e = record { legs = i; few = few; holds = h; primary = primary_in k.coverages c e }

  after_met : (i : ℕ) (f : LegEnd) (next : PathResult → Outcome) → Finds P f → ((r : PathResult) → P r → MetIf (next r)) → MetIf (after_leg i f next)
  unfolding after_leg
  after_met i (best r) next h k = k r h
  after_met i no_path next h k = tt
  after_met i heap_full next h k = tt

  line_met : (i : ℕ) (k : FullPath) (xs : List Candidate) (legs : List Leg) (rest : List (List Candidate)) → i + length legs ≤ length v.legs → I i k → In xs (candidates_of v) → ((leg : Leg) → In leg legs → In leg v.legs) → ((ys : List Candidate) → In ys rest → In ys (candidates_of v)) → MetIf (decode_line v search i k xs legs rest)
  unfolding decode_line
  line_met i k xs [] rest few h x ls ys = primary_met (length v.points) i k (omega arith) h
  line_met i k xs (leg ∷ legs) [] few h x ls ys = primary_met (length v.points) i k (omega arith) h
  line_met i k xs (leg ∷ legs) (zs ∷ rest) few h x ls ys =
      after_met i (find_best_path leg.limits (middle_search v search leg) xs zs) (λ r. decode_line v search (i + 1) (extended i k leg r) zs legs rest) (legs_find leg xs zs (ls leg here) x (ys zs here))
      (λ r p. line_met (i + 1) (extended i k leg r) zs legs rest (omega arith) (kept.extends i k leg r h p) (ys zs here) (λ l m. ls l (Memᴰ.tail m)) (λ us m. ys us (Memᴰ.tail m)))

  point_met : (xs : List Candidate) (legs : List Leg) (rest : List (List Candidate)) → length legs ≤ length v.legs → In xs (candidates_of v) → ((leg : Leg) → In leg legs → In leg v.legs) → ((ys : List Candidate) → In ys rest → In ys (candidates_of v)) → MetIf (decode_point_along_line v search xs legs rest)
  unfolding decode_point_along_line
  point_met xs [] rest few x ls ys = primary_met 2 0 no_path_yet (omega arith) kept.begins
  point_met xs (leg ∷ legs) [] few x ls ys = primary_met 2 0 no_path_yet (omega arith) kept.begins
  point_met xs (leg ∷ legs) (zs ∷ rest) few x ls ys =
      after_met 0 (find_best_path leg.limits (middle_search v search leg) xs zs) (λ r. with_primary 2 (path_of_leg leg r)) (legs_find leg xs zs (ls leg here) x (ys zs here))
      (λ r p. primary_met 2 1 (path_of_leg leg r) (omega arith) (kept.same_edge leg r p))

  -- ---- from the points on

  legs_met : (cs : List (List Candidate)) → ((ys : List Candidate) → In ys cs → In ys (candidates_of v)) → MetIf (decode_legs v search cs)
  unfolding decode_legs
  legs_met [] ys = tt
  legs_met (xs ∷ rest) ys =
      either MetIf (eqb v.kind point_along_line)
      (point_met xs v.legs rest (omega arith) (ys xs here) (λ l m. m) (λ us m. ys us (Memᴰ.tail m)))
      (line_met 0 no_path_yet xs v.legs rest (omega arith) kept.begins (ys xs here) (λ l m. m) (λ us m. ys us (Memᴰ.tail m)))

  close_met : (cs : List (List Candidate)) → ((ys : List Candidate) → In ys cs → In ys (candidates_of v)) → MetIf (require_close_candidate v search cs)
  unfolding require_close_candidate
  close_met cs ys = either MetIf ((closest_point cs).distance ≤ᶠ v.settings.max_candidate_distance_m) (legs_met cs ys) tt

  points_met : (cs : List (List Candidate)) → ((ys : List Candidate) → In ys cs → In ys (candidates_of v)) → MetIf (decode_points v search cs)
  unfolding decode_points maybe
  points_met [] ys = tt
  points_met (xs ∷ rest) ys = go (first_empty 0 (xs ∷ rest)) (close_met (xs ∷ rest) ys)
    where
      go : (o : Option ℕ) → MetIf (require_close_candidate v search (xs ∷ rest)) → MetIf (maybe o (require_close_candidate v search (xs ∷ rest)) (λ i. refused 9 i 0))
      go none h = h
      go (some i) h = tt

  outcome_met : MetIf (outcome v search)
  unfolding outcome
  outcome_met = either MetIf (ltb point_along_line v.kind) tt (points_met (candidates_of v) (λ ys m. m))

  -- a matched full path and its primary
  pub outcome_law : (k : FullPath) (c : EdgeCoverage) → outcome v search ≡ matched k c → Met I (length v.legs) k c
  outcome_law k c e = subst MetIf e outcome_met
