use mathlib.Core.List.{append-nil}
use Rattle.std.proofs.lemmas.Iterator.Consumers.{YieldsList-turn, YieldsList-end}
use Rattle.text.specs.Text.{ascii, line, path_line}
use Rattle.text.proofs.Roads.{chain, next_road, all_roads}
use Rattle.text.proofs.Putting.{then, then_is}
use Rattle.text.proofs.parts.Writer.matched.Goals as goal

pub loop-id-init : goal.loop-id-init
unfolding ascii line path_line
loop-id-init c = rw append-nil c.line.ensures

pub loop-id-preserved : goal.loop-id-preserved
unfolding ascii line
loop-id-preserved c =
    let roads = chain c.args.m.count c.args.ids.now c.args.lengths.now c.into_iter-id-iterator.result (cc) (cc) (cc) in
    let turn = YieldsList-turn roads c.loop-id.yielded _ c.loop-id.yielded_by _ c.next.new.self _ c.in-Some.is c.next.ensures.steps in
    then_is c.loop-id.invariant c.line-in-loop-id.ensures _ (next_road _ _ c.loop-id.yielded (c.in-Some.id, c.in-Some.metres) turn)

pub returns : goal.returns
returns c =
    let roads = chain c.args.m.count c.args.ids.now c.args.lengths.now c.into_iter-id-iterator.result (cc) (cc) (cc) in
    let end = YieldsList-end roads c.loop-id.yielded _ c.loop-id.yielded_by _ c.next.new.self c.in-None.is c.next.ensures.steps in
    then (rw (all_roads _ _ _ _ _ end.1) at c.loop-id.invariant) c.last.ensures
