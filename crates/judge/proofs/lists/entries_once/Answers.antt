use Rattle.std.proofs.Common.{◌≡◌, false, true, sym, arith, zero-add, length-set}
use Rattle.std.proofs.lemmas.List.{length-replicate}
use borrow.Author.Count.{below_more}
use Rattle.model.specs.Judge.{entry_of, entry_good}
use Rattle.judge.proofs.Tests.{every_true, every_false}
use Rattle.judge.proofs.Marking.{all_clear, marks_none, marks_next}
use Rattle.judge.proofs.lists.entries_once.Goals as goal
use Rattle.judge.proofs.lists.entries_once.Goals.{then-not-in_part-via-then-not-in_part, then-not-in_part-via-else-not-in_part+then-marks-road}

pub loop-j-init : goal.loop-j-init
loop-j-init g c =
    let a = c.args.sheet.now in
    (rw length-replicate c.requires, marks_none (entry_of a.bytes.now a.counts) a.counts.e _ (all_clear g.row.N a.counts.e c.requires), λ i l. elim l [ ])

pub returns-then-not-in_part : goal.returns-then-not-in_part
returns-then-not-in_part g c =
    let a = c.args.sheet.now in
    let j = c.loop-j.j in
    let mark = c.loop-j.invariant.1 c.entry-road.result c.entry-road.ensures.1 in
    let here : entry_good a.bytes.now a.counts j ≡ false =
    elim c.then-not-in_part.branch [
      | then-not-in_part-via-then-not-in_part w ↦ grind arith
      | then-not-in_part-via-else-not-in_part+then-marks-road w ↦ grind (arith, mark)
    ] in
    every_false (entry_good a.bytes.now a.counts) a.counts.e 0 j c.loop-j-test.true (rw zero-add here)

pub loop-j-preserved : goal.loop-j-preserved
loop-j-preserved g c =
    let a = c.args.sheet.now in
    let l = c.loop-j in
    let road = c.entry-road in
    let mark = l.invariant.1 road.result road.ensures.1 in
    let here : entry_good a.bytes.now a.counts l.j ≡ true = grind (arith, mark) in (
      rw length-set l.invariant.0,
      marks_next (entry_of a.bytes.now a.counts) a.counts.e l.marks road.result l.j l.invariant.0 road.ensures.1 (sym road.ensures.0) l.invariant.1,
      below_more _ l.j l.invariant.2 here,
    )

pub returns : goal.returns
returns g c =
    let a = c.args.sheet.now in
    every_true (entry_good a.bytes.now a.counts) a.counts.e 0 (λ j l. rw zero-add (c.loop-j.invariant.2 j (omega arith)))
