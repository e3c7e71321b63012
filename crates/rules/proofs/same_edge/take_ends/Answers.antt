use Rattle.std.proofs.Common.{get_or}
use Rattle.sheet.specs.Contents.{contents}
use Rattle.candidates.specs.Found.{at_road, no_item}
use Rattle.rules.specs.Code.{best_of}
use Rattle.rules.proofs.OneRoad.{apart_left, ends_more}
use Rattle.rules.proofs.same_edge.take_ends.Goals as goal
use Rattle.rules.proofs.same_edge.take_ends.Goals.{then-end-start, else-end-start}

pub loop-end-preserved : goal.loop-end-preserved
loop-end-preserved c search = let a = c.args in let p = c.requires in let t = contents a.sheet.now in
    let x = a.start in let y = get_or a.ends.now c.loop-end.end-index no_item in
    let so_far = c.loop-end.invariant search in
    let more = ends_more a.limits (at_road t x) (at_road t) (best_of search a.best) a.ends.now c.loop-end.end-index no_item c.loop-end-test.true in
    elim c.if-end-start.branch [
      | then-end-start w ↦ let taken = w.take_close-best.ensures.taken search in cc w.new-pair.ensures.stands
      | else-end-start w ↦ let left = apart_left a.sheet.now a.limits (best_of search c.loop-end.best) x y p.0 (p.1 c.loop-end.end-index c.loop-end-test.true) w.if-end-start.false in cc
    ]
