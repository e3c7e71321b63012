use Rattle.std.proofs.Common.{eqb, [], ◌∷◌, sym, arith, ◌∙◌}
use Rattle.model.specs.Table.{u8, check_then}
use Rattle.ranges.proofs.Running.{zeros_run}
use Rattle.ranges.proofs.need.spare.Goals as goal

pub returns : goal.returns
unfolding check_then
returns c =
    let a = c.args in
    c.run.ensures a.s.now (u8 (λ v. eqb v 0) 0 ∷ []) (λ i l v h. grind arith) ∙ sym (zeros_run a.s.now a.at a.off a.k)
