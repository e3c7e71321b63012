use Rattle.std.proofs.Common.{rules, map}
use lib.ListN.{length-map}
use Rattle.pairs.proofs.Heads.{sum_is, least_skip, least_first, least_lower, least_stays}
use Rattle.pairs.proofs.least_head.Goals.{in-Some+in-Some-best, in-Some+in_default-best-2, in-Some+in_default-best, in_default}
use Rattle.pairs.proofs.least_head.Goals as goal

pub loop-i-preserved : goal.loop-i-preserved
loop-i-preserved g c =
    let score = g.S.HasScore.score_of in
    let a = c.args in
    let l = c.loop-i in
    let starts = map score a.starts.now in
    let ends = map score a.ends.now in
    let is = sum_is score a.starts.now a.ends.now a.heads.now l.i c.index-starts-i.result in
    let long = length-map a.ends.now score in
    elim c.match-get.branch [
      | in-Some+in-Some-best w ↦
          let there = w.in-Some.ensures.lookup.3 in
          let sum = is w.in-Some.end.now _ _ c.loop-i-test.true c.index-starts-i.is there w.score.ensures w.score-in-Some.ensures in
          rw (w.best-is, w.in-Some-best.is) (least_stays starts ends a.heads.now l.i (rw long there.0) w.in-Some-best.field-0-0 w.in-Some-best.least (rw w.in-Some-best.is at l.invariant) (rw sum at w.if-not-sum-least.true))
      | in-Some+in_default-best-2 w ↦
          let there = w.in-Some.ensures.lookup.3 in
          let sum = is w.in-Some.end.now _ _ c.loop-i-test.true c.index-starts-i.is there w.score.ensures w.score-in-Some.ensures in
          rw (w.best-is, sum) (least_lower starts ends a.heads.now l.i (rw long there.0) w.in-Some-best.field-0-0 w.in-Some-best.least (rw w.in-Some-best.is at l.invariant) (rw sum at w.if-not-sum-least.false))
      | in-Some+in_default-best w ↦
          let there = w.in-Some.ensures.lookup.3 in
          let sum = is w.in-Some.end.now _ _ c.loop-i-test.true c.index-starts-i.is there w.score.ensures w.score-in-Some.ensures in
          rw (w.best-is, sum) (least_first starts ends a.heads.now l.i (rw long there.0) (rw w.in_default-best.is at l.invariant))
      | in_default w ↦ rw w.best-is (least_skip starts ends a.heads.now l.i l.best l.invariant (rw long (search rules)))
    ]
