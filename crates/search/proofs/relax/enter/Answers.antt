use mathlib.Core.Path.{sym, ap, subst, ◌∙◌}
use mathlib.Core.Option.{some}
use native.Mathlib.Omega.{arith}
use lib.Ieee.{Float}
use Rattle.model.specs.Numbers.{◌⊕◌}
use Rattle.model.specs.Sheet.{road_at}
use Rattle.sheet.specs.Contents.{contents}
use Rattle.search.specs.Query.{query_at}
use Rattle.search.specs.Areas.{Columns, columns, state_of, AreasKept}
use Rattle.search.proofs.Growth.{same_nodes, grown_full, grown_kept, grown_state}
use Rattle.search.proofs.relax.enter.Goals as goal

pub returns-then-full-clause-state : goal.returns-then-full-clause-state
returns-then-full-clause-state c = grown_full c.requires.ready.1 c.if-full.true _ _ _ c.args.label

pub returns-clause-kept : goal.returns-clause-kept
returns-clause-kept c =
    let a = c.args in
    let p = c.requires in
    let sheet = a.search.now.sheet in
    subst (AreasKept sheet.counts.n sheet.counts.e a.areas.now.slots (columns a.areas.now)) (sym c.put.ensures.put) (grown_kept p.ready.1 c.if-full.false (omega (arith, same_nodes p.ready.0)) a.label p.inside.1 _)

pub returns-clause-state : goal.returns-clause-state
returns-clause-state c =
    let a = c.args in
    let p = c.requires in
    let sheet = a.search.now.sheet in
    ap (λ (b : Columns). some (state_of (road_at (contents sheet)) sheet.counts.n b)) c.put.ensures.put
    ∙ grown_state p.ready.1 c.if-full.false (omega (arith, same_nodes p.ready.0)) a.label p.inside.1 _ (road_at (contents sheet)) (query_at a.search.now) (ap (λ (x : Float). a.label.penalised ⊕ x) c.heuristic.ensures)
