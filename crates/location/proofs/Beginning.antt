-- The definition before the legs: the kind, the points, and that a point with a candidate needs a node.
use Rattle.std.proofs.Common.{◌≡◌, ℕ, ◌≤◌, ◌<◌, Bool, true, false, cond, eqb, List, [], ◌∷◌, length, get_or, drop, Result, Ok, Err, refl, sym, ap, subst, inl, inr, ◌⊎◌, ◌∙◌, arith, drop-cons}
use Rattle.std.specs.Result.{IsOk}
use Rattle.std.proofs.Math.Option as definition
use Rattle.std.specs.Float.Ieee.{Float}
use Rattle.std.proofs.lemmas.Bool.{false≢true, eq-eqb, eqb-true}
use borrow.Author.Tests.{lt-ltb, le-ltb}
use Rattle.model.specs.declared.Counts.{Counts}
use Rattle.model.specs.declared.error.DecodeError.{DecodeError}
use Rattle.model.specs.declared.error.DecodeError.TheVariants.{UnsupportedType, NoPoints}
use Rattle.model.specs.declared.kind.Kind.{Kind}
use Rattle.model.specs.declared.kind.Kind.TheVariants.{Line, PointAlongLine, GeoCoordinate, Poi, Circle, Rectangle, Grid, Polygon, ClosedLine}
use Rattle.model.specs.declared.kind.UnknownKind.{UnknownKind}
use Rattle.model.specs.Kinds.{kind_number, Names}
use Rattle.model.specs.Candidates.{Candidate}
use Rattle.model.specs.Lists.{In, maybe, tabulate}
use Rattle.model.specs.Layout.{point_along_line, counts_of}
use Rattle.model.specs.Judge.{WellFormed, counts_good, fields_good, header_table, known_kind}
use Rattle.model.specs.Refusals.{number_of}
use Rattle.model.specs.Sheet.{Sheet, sheet_of}
use Rattle.model.specs.View.{view}
use Rattle.model.specs.Search.{Search, bounded_astar}
use Rattle.model.specs.Decode.{first_empty, decode_legs, decode_points, outcome}
use Rattle.model.proofs.Fields.{first_bad_at, records_field}
use Rattle.model.proofs.Judging.{all_of_at}
use Rattle.model.proofs.Members.{here, in_getD, length_tab, getD_table}
use Rattle.model.proofs.Parsed.{node_count, point_count}
use Rattle.bounds.proofs.FormedProof.{well_formed_formed}
use Rattle.bounds.proofs.Sources.{found_on_roads}
use Rattle.candidates.specs.Found.{no_point, point_at, candidates_at}
use Rattle.candidates.specs.Points.{Points, candidates_of, no_candidate_of, close_enough, judge_points, points_of, after_points}
use Rattle.candidates.proofs.Rules.{candidates_are, decode_sheet_after}
use Rattle.lines.specs.Legs.{line_outcome, point_along_line_outcome}
use Rattle.location.specs.Reference.{legs_of, AdmissionIs}

-- a first point without a candidate is refused
some_candidate : (most : Float) (xs : List Candidate) (rest : List (List Candidate)) → IsOk (judge_points most (xs ∷ rest)) → (x : Candidate) × In x xs
unfolding judge_points first_empty maybe
some_candidate most [] rest e = absurd (cc)
some_candidate most (x ∷ xs) rest e = (x, here)

other_number : (kind : Kind) → (kind ≡ Line → ⊥) → (kind ≡ PointAlongLine → ⊥) → point_along_line < kind_number kind
other_number Line a b = absurd (a refl)
other_number PointAlongLine a b = absurd (b refl)
other_number GeoCoordinate a b = omega arith
other_number Poi a b = omega arith
other_number Circle a b = omega arith
other_number Rectangle a b = omega arith
other_number Grid a b = omega arith
other_number Polygon a b = omega arith
other_number ClosedLine a b = omega arith

-- the refusal of a point has number 9
abbrev Early : Points → Type 0
Early (Ok u) = Unit {0}
Early (Err e) = number_of e ≤ 9

early_near : (b : Bool) (i : ℕ) → Early (cond b (Ok tt) (no_candidate_of i))
early_near true i = tt
early_near false i = omega arith

early_first : (o : definition.Option ℕ) (r : Points) → Early r → Early (maybe o r no_candidate_of)
unfolding maybe
early_first definition.none r h = h
early_first (definition.some i) r h = omega arith

early : (most : Float) (cs : List (List Candidate)) → Early (judge_points most cs)
unfolding judge_points close_enough
early most [] = tt
early most (xs ∷ rest) = early_first (first_empty 0 (xs ∷ rest)) _ (early_near _ _)

-- what legs a kind has, by its number
by_number : (kind : Kind) (t : Sheet) (slots : ℕ) → legs_of kind t slots ≡ cond (eqb (kind_number kind) point_along_line) (point_along_line_outcome t slots) (line_outcome t slots)
by_number PointAlongLine t slots = refl
by_number _ t slots = refl

small : (kind : Kind) → (kind ≡ Line) ⊎ (kind ≡ PointAlongLine) → kind_number kind ≤ point_along_line
small kind (inl e) = rw e (omega arith)
small kind (inr e) = rw e (omega arith)

module _ (s : List ℕ) (c : Counts) (w : WellFormed s c) where
  abbrev t : Sheet
  t = sheet_of s c

  -- ---- the kind

  known : known_kind c.kind ≡ true
  unfolding fields_good header_table counts_of
  known = ap (λ (x : Counts). known_kind x.kind) w.header ∙ records_field s 4 header_table 1 0 (first_bad_at _ w.sound.fields 0) 0 (omega arith) 0

  pub kind_named : (r : Result Kind UnknownKind) → Names c.kind r → IsOk r
  kind_named (Ok kind) h = refl
  kind_named (Err e) h = absurd (false≢true (sym h ∙ known))

  kind_is : (view t).kind ≡ c.kind
  unfolding view sheet_of
  kind_is = refl

  pub two : kind_number PointAlongLine ≡ c.kind → c.p ≡ 2
  unfolding counts_good
  two e = eqb-true c.p 2 (rw (eq-eqb c.kind point_along_line (sym e)) at (all_of_at _ w.counts 5))

  pub other_kind : (kind : Kind) → kind_number kind ≡ c.kind → (kind ≡ Line → ⊥) → (kind ≡ PointAlongLine → ⊥) → AdmissionIs (sheet_of s c) c (Err (UnsupportedType kind))
  unfolding outcome
  other_kind kind e a b = (omega arith, λ slots. let h = other_number kind a b in rw (kind_is, lt-ltb point_along_line c.kind (rw e at h), e))

  -- ---- the points

  none_there : c.p ≡ 0 → candidates_of t ≡ []
  unfolding tabulate
  none_there e = candidates_are s c ∙ rw e

  first_point : 0 < c.p → candidates_of t ≡ candidates_at t 0 ∷ drop 1 (candidates_of t)
  first_point some =
      let long : 0 < length (candidates_of t) = rw (candidates_are s c) (omega (arith, length_tab c.p 0 (candidates_at t))) in
      drop-cons (candidates_of t) 0 [] long
      ∙ ap (λ (xs : List Candidate). xs ∷ drop 1 (candidates_of t)) (ap (λ (cs : List (List Candidate)). get_or cs 0 []) (candidates_are s c) ∙ getD_table c.p (candidates_at t) 0 [] some)

  -- the first point has a candidate, on a road between nodes
  some_node : 0 < c.p → IsOk (points_of t) → 0 < c.n
  unfolding points_of candidates_at
  some_node some fine =
      let wf = well_formed_formed s c w in
      let x = some_candidate t.settings.max_candidate_distance_m (candidates_at t 0) (drop 1 (candidates_of t)) (rw (first_point some) at fine) in
      let stop = in_getD t.points 0 no_point (rw (point_count s c) some) in
      let road = found_on_roads wf (point_at t 0) stop x.0 x.1 in
      omega (arith, (wf.roads x.0.road road).target, node_count s c)

  -- ---- the legs

  -- of a line or of a point along line
  module _ (kind : Kind) (number : kind_number kind ≡ c.kind) (known : (kind ≡ Line) ⊎ (kind ≡ PointAlongLine)) where
    to_points : (search : Search) → outcome (view t) search ≡ decode_points (view t) search (candidates_of t)
    unfolding outcome candidates_of
    to_points search = rw (kind_is, le-ltb point_along_line c.kind (rw number at (small kind known)))

    pub no_points : c.p ≡ 0 → AdmissionIs (sheet_of s c) c (Err NoPoints)
    unfolding decode_points
    no_points e = (omega arith, λ slots. to_points (bounded_astar slots) ∙ rw (none_there e))

    pub point_refused : (e : DecodeError) → Err e ≡ points_of (sheet_of s c) → AdmissionIs (sheet_of s c) c (Err e)
    unfolding after_points points_of
    point_refused e is = (subst Early (sym is) (early t.settings.max_candidate_distance_m (candidates_of t)), λ slots. to_points (bounded_astar slots) ∙ decode_sheet_after t (bounded_astar slots) ∙ rw (sym is))

    legs_are : (slots : ℕ) → decode_legs (view t) (bounded_astar slots) (candidates_at t 0 ∷ drop 1 (candidates_of t)) ≡ legs_of kind t slots
    unfolding decode_legs
    legs_are slots = ap (λ (k : ℕ). cond (eqb k point_along_line) (point_along_line_outcome t slots) (line_outcome t slots)) (kind_is ∙ sym number) ∙ sym (by_number kind t slots)

    pub admitted : 0 < c.p → Ok tt ≡ points_of (sheet_of s c) → AdmissionIs (sheet_of s c) c (Ok kind)
    unfolding after_points
    admitted some is = (
      some,
      some_node some (rw (sym is) refl),
      λ point. two (ap kind_number (sym point) ∙ number),
      λ slots. to_points (bounded_astar slots) ∙ decode_sheet_after t (bounded_astar slots) ∙ rw (sym is) (ap (decode_legs (view t) (bounded_astar slots)) (first_point some) ∙ legs_are slots),
    )
