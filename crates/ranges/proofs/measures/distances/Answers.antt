use Rattle.ranges.proofs.Measuring.{measures_good}
use Rattle.ranges.proofs.measures.distances.Goals as goal

pub returns-then-all_measured : goal.returns-then-all_measured
returns-then-all_measured c =
    let a = c.args in
    measures_good a.s.now a.base a.k c.words.result.now c.words.ensures.count c.words.ensures.each (c.all_measured.ensures c.if-all_measured.true)
