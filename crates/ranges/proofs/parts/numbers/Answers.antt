use Rattle.ranges.proofs.Measuring.{numbers_good}
use Rattle.ranges.proofs.parts.numbers.Goals as goal

pub returns-then-all_below : goal.returns-then-all_below
returns-then-all_below c =
    let a = c.args in
    numbers_good a.s.now a.base a.k c.words.result.now c.words.ensures.count a.e c.words.ensures.each (c.all_below.ensures c.if-all_below.true)
