use Rattle.std.proofs.Common.{◌≡◌, ◌⊎◌, inl, inr, length, sym, ◌∙◌}
use Rattle.std.specs.List.{reduce}
use Rattle.full_path.specs.Left.{paired}
use Rattle.full_path.proofs.Greatest.{greater, greatest_end, greatest_as, greatest_within}
use Rattle.full_path.proofs.coverage.primary_edge.Goals as goal

pub returns : goal.returns
returns c =
    let left = c.loop-road.road-iterator in
    let none : (length left.a.rest.now ≡ 0) ⊎ (length left.b.rest.now ≡ 0) = elim c.in-None.ensures.steps [ inl h ↦ inl h.1.0 | inr h ↦ inr h.1.0 ] in
    let is : c.loop-road.best ≡ reduce greater (paired c.args.roads.now c.args.metres.now) = sym (greatest_end _ _ _ none) ∙ c.loop-road.invariant in
    (λ t. greatest_as t _ _ is, λ e below. greatest_within e _ _ _ is below)
