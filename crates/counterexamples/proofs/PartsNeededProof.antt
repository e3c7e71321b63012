-- The equal parts of alike sheets are needed, by computing.
use mathlib.Core.Path.{refl}
use Rattle.model.specs.Numbers.{nat}
use Rattle.model.specs.Call.{decode}
use Rattle.closed.specs.Closed.{refusal, match, shared_answer}
use Rattle.counterexamples.specs.Needed.{shared_answer_of, AnsweredBy}
use Rattle.counterexamples.specs.PartsNeeded.{AlikeBut, s1_with, usual, s1, no_candidates, two_nodes, three_nodes, for_two_nodes, two_ways, on_700, PartsNeeded}
use Rattle.counterexamples.proofs.Likeness.{alike_but, computes_likeness}

kind : AnsweredBy shared_answer_of (AlikeBut 0) s1 (s1_with 4 usual 3 75) (on_700 50) (refusal 7 4 0)
unfolding computes_likeness
kind = record { fine = (refl, refl); like = alike_but 0 2 s1 (s1_with 4 usual 3 75) tt tt tt tt tt tt; answers = (refl, refl) }

nodes : AnsweredBy (λ s. shared_answer (decode s for_two_nodes).answer) (AlikeBut 1) two_nodes three_nodes (on_700 50) (refusal 6 0 0)
unfolding computes_likeness
nodes = record { fine = (refl, refl); like = alike_but 1 3 two_nodes three_nodes tt tt tt tt tt tt; answers = (refl, refl) }

settings : AnsweredBy shared_answer_of (AlikeBut 2) s1 (s1_with 1 no_candidates 3 75) (on_700 50) (refusal 9 0 0)
unfolding computes_likeness
settings = record { fine = (refl, refl); like = alike_but 2 2 s1 (s1_with 1 no_candidates 3 75) tt tt tt tt tt tt; answers = (refl, refl) }

points : AnsweredBy shared_answer_of (AlikeBut 3) s1 (s1_with 1 usual 6 75) (on_700 50) (refusal 9 0 0)
unfolding computes_likeness
points = record { fine = (refl, refl); like = alike_but 3 2 s1 (s1_with 1 usual 6 75) tt tt tt tt tt tt; answers = (refl, refl) }

rows : AnsweredBy shared_answer_of (AlikeBut 4) s1 (s1_with 1 usual 3 50) (on_700 50) (on_700 25)
unfolding computes_likeness
rows = record { fine = (refl, refl); like = alike_but 4 2 s1 (s1_with 1 usual 3 50) tt tt tt tt tt tt; answers = (refl, refl) }

distances : AnsweredBy shared_answer_of (AlikeBut 5) (two_ways 0) (two_ways 9) (match (nat 90) 702 (nat 30)) (match (nat 90) 704 (nat 30))
unfolding computes_likeness
distances = record { fine = (refl, refl); like = alike_but 5 6 (two_ways 0) (two_ways 9) tt tt tt tt tt tt; answers = (refl, refl) }

pub parts_needed : PartsNeeded
parts_needed = record { kind = kind; nodes = nodes; settings = settings; points = points; rows = rows; distances = distances }
