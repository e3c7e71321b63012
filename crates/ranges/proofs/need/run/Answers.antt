use Rattle.std.proofs.Common.{Ok, Err, arith}
use Rattle.std.proofs.lemmas.Result.{err_from_is_err_and}
use Rattle.ranges.proofs.Running.{records_good, records_bad}
use Rattle.ranges.proofs.need.run.Goals as goal

pub returns-in_err-check : goal.returns-in_err-check
returns-in_err-check g c = λ s fs finds.
    let a = c.args in
    let i = c.loop-i in
    let p = err_from_is_err_and c.from_residual.result c.from_residual.ensures.1 in
    rw (p.1, p.2) (records_bad s a.w fs a.k a.base i.i _ c.loop-i-test.true (λ j l. finds j (omega arith) (Ok tt) (i.invariant j l)) (finds i.i c.loop-i-test.true (Err c.in_err-check.field-0.0) c.in_err-check.ensures))

pub returns : goal.returns
returns g c = λ s fs finds. records_good s c.args.w fs c.args.k c.args.base (λ j l. finds j l (Ok tt) (c.loop-i.invariant j (omega arith)))
