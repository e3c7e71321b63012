use Rattle.std.proofs.Common.{◌≡◌, ◌+◌, ◌-◌, false, arith}
use Rattle.model.specs.Judge.{row_count, has_goal}
use Rattle.judge.proofs.Tests.{every_true, every_false}
use Rattle.judge.proofs.rows.CountedSheet.sources_marked.Goals as goal

pub returns-then-not-marks-source : goal.returns-then-not-marks-source
returns-then-not-marks-source c =
    let a = c.args.self.now.sound in
    let s = a.bytes.now in
    let k = c.loop-k.k in
    let mark = c.requires.2 c.source.result c.source.ensures.1 in
    let here : has_goal s a.counts k ≡ false = grind (arith, mark) in
    let there : row_count s 0 + (k - row_count s 0) ≡ k = omega arith in
    every_false (has_goal s a.counts) (a.counts.m - row_count s 0) (row_count s 0) (k - row_count s 0) (omega arith) (rw there here)

pub returns : goal.returns
returns c =
    let a = c.args.self.now.sound in
    let s = a.bytes.now in
    every_true (has_goal s a.counts) (a.counts.m - row_count s 0) (row_count s 0) (λ j l. c.loop-k.invariant (row_count s 0 + j) (omega arith) (omega arith))
