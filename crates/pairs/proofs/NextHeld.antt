-- The next pair of candidates that the code holds, as the definition has them.
use mathlib.Core.Path.{◌≡◌, refl, ap}
use mathlib.Core.List.{List, [], ◌∷◌, map}
use Prim.Native.Nat.{ℕ, ◌<◌}
use native.Mathlib.Omega.{arith}
use lib.ListN.{length, length-map}
use lib.Ieee.{Float, nan}
use Rattle.std.specs.Prelude.{Some, None}
use Rattle.std.proofs.lemmas.List.{get_or-map}
use Rattle.model.specs.Sheet.{Sheet}
use Rattle.model.specs.Lists.{sort}
use Rattle.model.specs.Legs.{pair, by_sum}
use Rattle.candidates.specs.declared.candidate.Candidate as code
use Rattle.candidates.specs.Found.{no_item, at_road, held, item_at, Rising}
use Rattle.candidates.proofs.Held.{held_at}
use Rattle.pairs.specs.declared.Next.{Next}
use Rattle.pairs.specs.Left.{left, scores_of, ScoresRise, NextOf}

abbrev pub scores : List code.Candidate → List Float
scores xs = map (λ (x : code.Candidate). x.score) xs

held_scores : (t : Sheet) (xs : List code.Candidate) → scores xs ≡ scores_of (held t xs)
unfolding held
held_scores t [] = refl
held_scores t (x ∷ xs) = ap (λ (ss : List Float). x.score ∷ ss) (unfold held in held_scores t xs)

scores_rise : (xs : List code.Candidate) → Rising xs → ScoresRise (scores xs)
scores_rise xs r =
    let long = length-map xs (λ (x : code.Candidate). x.score) in
    let at = get_or-map (λ (x : code.Candidate). x.score) xs in record {
      amounts = λ k h. let g : k < length xs = rw long at h in rw (at k no_item nan g) (r.amounts k g);
      rise = λ j k l h. let g : k < length xs = rw long at h in rw (at j no_item nan (omega (arith, l, g)), at k no_item nan g) (r.rise j k l g);
    }

module _ (t : Sheet) (starts ends : List code.Candidate) (old new : List ℕ) where
  pub none_held : NextOf (scores starts) (scores ends) old new None → left (held t starts) (held t ends) old ≡ []
  none_held e = e (held t starts) (held t ends) (held_scores t starts) (held_scores t ends)

  pub next_held : (p : Next) → NextOf (scores starts) (scores ends) old new (Some p) → (p.start < length starts) × (p.end < length ends) → Rising starts → Rising ends
      → sort by_sum (left (held t starts) (held t ends) old) ≡ pair (at_road t (item_at starts p.start)) (at_road t (item_at ends p.end)) ∷ sort by_sum (left (held t starts) (held t ends) new)
  next_held p next within a b =
      rw (held_at t starts p.start within.0, held_at t ends p.end within.1) at (next (held t starts) (held t ends)
      record { starts_are = held_scores t starts; ends_are = held_scores t ends; starts_rise = scores_rise starts a; ends_rise = scores_rise ends b })
