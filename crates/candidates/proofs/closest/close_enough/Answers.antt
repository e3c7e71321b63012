use Rattle.candidates.proofs.Pointwise.{near, too_far}
use Rattle.candidates.proofs.closest.close_enough.Goals as goal

pub returns-then-d-most : goal.returns-then-d-most
returns-then-d-most c = let s = c.args.sheet.now in let l = c.loop-i in
    near s.bytes.now s.counts l.i l.index l.least l.invariant s.well_formed c.loop-i-test.true c.nearest-d.result c.nearest-d.ensures (rw c.settings-most.ensures at c.if-d-most.true)

pub returns : goal.returns
returns c = let s = c.args.sheet.now in let l = c.loop-i in
    too_far s.bytes.now s.counts l.i l.index l.least l.invariant s.well_formed c.loop-i-test.false
