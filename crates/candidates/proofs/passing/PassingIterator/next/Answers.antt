use Rattle.std.proofs.Common.{rules, ap, sym, ◌∙◌, length, arith}
use Rattle.candidates.proofs.Reading.{left_some}
use Rattle.candidates.proofs.passing.PassingIterator.next.Goals as goal

pub returns-in-Some-kept-clause-steps : goal.returns-in-Some-kept-clause-steps
returns-in-Some-kept-clause-steps c = let a = c.loop-k.self-inside in let step = c.in-Some.ensures.steps in
    rw (step.0, step.1.2) (sym c.self.view_is ∙ sym c.loop-k.invariant.same
    ∙ left_some a.sheet.bytes.now a.sheet.counts a.settings a.point a.rows.start a.rows.end (let h = step.1.0 in omega arith) c.in-Some-kept.x (rw (c.road-r.ensures.0, c.row-w.ensures.0, step.1.1) at (sym c.in-Some-kept.ensures)))

pub returns-in-Some-kept-clause-goes : goal.returns-in-Some-kept-clause-goes
returns-in-Some-kept-clause-goes c = let e = returns-in-Some-kept-clause-steps c in let l = ap length e in search rules
