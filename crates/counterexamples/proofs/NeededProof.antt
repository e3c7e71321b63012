-- Each condition of demand 3 is needed, by computing.
use mathlib.Core.Path.{◌≡◌, refl}
use mathlib.Core.List.{[], ◌∷◌}
use Rattle.model.specs.Judge.{Fine}
use Rattle.model.specs.Numbers.{nat}
use Rattle.model.specs.Judge.{judged}
use Rattle.closed.specs.Closed.{is_closed, AlikeBy, Alike, refusal, match}
use Rattle.counterexamples.specs.Needed.{slip_too, named_too, beyond_one_limit, beyond_limits_given, beyond_bare_limits, AnyOrder, AnyBytes, AnyNumbers, SnappingOff, NoZeroLength, shared_answer_of, path_count, AnsweredBy, no_bridge, bridge, two_bridges, two_legs_gap, two_legs_bridge, class_limit_7, no_class_limit, named_road, twins, one_alone, one_longer, looped, match_over, ConditionsNeeded, WholeAnswerConditionsNeeded}
use Rattle.counterexamples.proofs.Likeness.{alike_by, any_order, any_bytes, any_numbers, computes_likeness}

closed : AnsweredBy shared_answer_of Alike no_bridge (bridge 6 3) (refusal 10 0 1) (refusal 10 0 1)
unfolding computes_likeness
closed = record { fine = (refl, refl); like = alike_by no_bridge (bridge 6 3) tt is_closed tt tt tt; answers = (refl, refl) }

slip : AnsweredBy shared_answer_of (AlikeBy slip_too) no_bridge (bridge 6 6) (refusal 10 0 1) (match_over 80 702)
unfolding computes_likeness
slip = record { fine = (refl, refl); like = alike_by no_bridge (bridge 6 6) tt slip_too tt tt tt; answers = (refl, refl) }

tolerance : AnsweredBy shared_answer_of (AlikeBy beyond_bare_limits) no_bridge (bridge 5 3) (refusal 10 0 1) (match_over 80 702)
unfolding computes_likeness
tolerance = record { fine = (refl, refl); like = alike_by no_bridge (bridge 5 3) tt beyond_bare_limits tt tt tt; answers = (refl, refl) }

every_leg : AnsweredBy shared_answer_of (AlikeBy beyond_one_limit) (two_legs_gap class_limit_7) (two_legs_bridge class_limit_7) (refusal 10 1 2) (match_over 90 702)
unfolding computes_likeness
every_leg = record { fine = (refl, refl); like = alike_by (two_legs_gap class_limit_7) (two_legs_bridge class_limit_7) tt beyond_one_limit tt tt tt; answers = (refl, refl) }

no_limit : AnsweredBy shared_answer_of (AlikeBy beyond_limits_given) (two_legs_gap no_class_limit) (two_legs_bridge no_class_limit) (refusal 10 1 2) (match_over 90 702)
unfolding computes_likeness
no_limit = record { fine = (refl, refl); like = alike_by (two_legs_gap no_class_limit) (two_legs_bridge no_class_limit) tt beyond_limits_given tt tt tt; answers = (refl, refl) }

named : AnsweredBy shared_answer_of (AlikeBy named_too) (named_road 6) (named_road 7) (refusal 10 0 1) (refusal 9 0 0)
unfolding computes_likeness
named = record { fine = (refl, refl); like = alike_by (named_road 6) (named_road 7) tt named_too tt tt tt; answers = (refl, refl) }

order : AnsweredBy shared_answer_of AnyOrder (two_bridges 702 703 2 3) (two_bridges 702 703 3 2) (match_over 80 702) (match_over 80 703)
unfolding computes_likeness
order = record { fine = (refl, refl); like = any_order (two_bridges 702 703 2 3) (two_bridges 702 703 3 2) tt tt tt; answers = (refl, refl) }

bytes : AnsweredBy shared_answer_of AnyBytes (two_bridges 702 703 2 3) (two_bridges 704 703 2 3) (match_over 80 702) (match_over 80 704)
unfolding computes_likeness
bytes = record { fine = (refl, refl); like = any_bytes (two_bridges 702 703 2 3) (two_bridges 704 703 2 3) tt tt; answers = (refl, refl) }

numbers : AnsweredBy shared_answer_of AnyNumbers (twins 700 701 (0 ∷ 1 ∷ [])) (twins 701 700 (1 ∷ 0 ∷ [])) (match (nat 20) 700 (nat 20)) (match (nat 20) 701 (nat 20))
unfolding computes_likeness
numbers = record { fine = (refl, refl); like = any_numbers (twins 700 701 (0 ∷ 1 ∷ [])) (twins 701 700 (1 ∷ 0 ∷ [])) tt refl; answers = (refl, refl) }

well_formed : (judged no_bridge ≡ Fine) × Alike no_bridge (bridge 8 3) × (shared_answer_of no_bridge ≡ refusal 10 0 1) × (shared_answer_of (bridge 8 3) ≡ refusal 4 304 0)
unfolding computes_likeness
well_formed = (refl, alike_by no_bridge (bridge 8 3) tt is_closed tt tt tt, refl, refl)

pub conditions_needed : ConditionsNeeded
conditions_needed = record { closed = closed; slip = slip; tolerance = tolerance; every_leg = every_leg; no_limit = no_limit; named = named; order = order; bytes = bytes; numbers = numbers; well_formed = well_formed }

-- ---- the whole answer

snapping : AnsweredBy path_count (λ x y. Alike x y × NoZeroLength x × NoZeroLength y) (one_alone 1) (one_longer 1 6 20) 1 2
unfolding computes_likeness
snapping = record { fine = (refl, refl); like = (alike_by (one_alone 1) (one_longer 1 6 20) tt is_closed tt tt tt, refl, refl); answers = (refl, refl) }

zero_there : AnsweredBy path_count (λ x y. Alike x y × SnappingOff x × NoZeroLength x) (one_alone 0) (one_longer 0 6 0) 1 2
unfolding computes_likeness
zero_there = record { fine = (refl, refl); like = (alike_by (one_alone 0) (one_longer 0 6 0) tt is_closed tt tt tt, refl, refl); answers = (refl, refl) }

zero_here : AnsweredBy path_count (λ x y. Alike x y × SnappingOff x × NoZeroLength y) (one_longer 0 6 0) (one_alone 0) 2 1
unfolding computes_likeness
zero_here = record { fine = (refl, refl); like = (alike_by (one_longer 0 6 0) (one_alone 0) tt is_closed tt tt tt, refl, refl); answers = (refl, refl) }

zero_both : AnsweredBy path_count (λ x y. Alike x y × SnappingOff x) (one_longer 0 3 0) looped 2 1
unfolding computes_likeness
zero_both = record { fine = (refl, refl); like = (alike_by (one_longer 0 3 0) looped tt is_closed tt tt tt, refl); answers = (refl, refl) }

neither : AnsweredBy path_count (λ x y. Alike x y × SnappingOff x × NoZeroLength x × NoZeroLength y) (one_alone 0) (one_longer 0 6 20) 1 1
unfolding computes_likeness
neither = record { fine = (refl, refl); like = (alike_by (one_alone 0) (one_longer 0 6 20) tt is_closed tt tt tt, refl, refl, refl); answers = (refl, refl) }

pub whole_answer_conditions_needed : WholeAnswerConditionsNeeded
whole_answer_conditions_needed = record { snapping = snapping; zero_there = zero_there; zero_here = zero_here; zero_both = zero_both; neither = neither }
