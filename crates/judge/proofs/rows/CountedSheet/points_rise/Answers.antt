use Rattle.std.proofs.Common.{◌≡◌, ◌+◌, false, arith, zero-add}
use Rattle.model.specs.Judge.{point_rises}
use Rattle.model.proofs.RowSums.{before_next, before_le}
use Rattle.judge.proofs.Tests.{every_true, every_false}
use Rattle.judge.proofs.rows.CountedSheet.points_rise.Goals as goal

pub roads_rise-requires : goal.roads_rise-requires
roads_rise-requires c =
    let a = c.args.self.now.sound in
    let s = a.bytes.now in
    let i = c.loop-i.i in
    omega (arith, before_next s i, before_le s (i + 1) a.counts.p (omega arith))

pub returns-then-not-roads_rise : goal.returns-then-not-roads_rise
returns-then-not-roads_rise c =
    let a = c.args.self.now.sound in
    let i = c.loop-i.i in
    let here : point_rises a.bytes.now a.counts i ≡ false = grind arith in
    every_false (point_rises a.bytes.now a.counts) a.counts.p 0 i c.loop-i-test.true (rw zero-add here)

pub returns : goal.returns
returns c =
    let a = c.args.self.now.sound in
    every_true (point_rises a.bytes.now a.counts) a.counts.p 0 (λ j l. rw zero-add (c.loop-i.invariant.1 j (omega arith)))
