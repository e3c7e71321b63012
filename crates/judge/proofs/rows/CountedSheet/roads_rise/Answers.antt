use Rattle.std.proofs.Common.{rules}
use Rattle.model.specs.Judge.{row_road}
use Rattle.judge.proofs.rows.CountedSheet.roads_rise.Goals as goal

pub returns : goal.returns
returns c =
    let a = c.args.self.now.sound in
    c.rise.ensures (row_road a.bytes.now a.counts) (λ i lo hi v h. search rules)
