use Rattle.model.proofs.Parsed.{road_count}
use Rattle.road_network.proofs.Kept.{few, seen_start, seen_choice, seen_step, seen_end}
use Rattle.road_network.proofs.graph.test_node.Goals as goal

pub loop-i-init : goal.loop-i-init
loop-i-init c = seen_start (road_count _ _)

pub returns-in_default : goal.returns-in_default
returns-in_default c = seen_choice c.loop-i.invariant c.loop-i-test.true c.source-source.ensures.0 c.target-target.ensures.0 c.meet_road.ensures c.in_default.is

pub loop-i-preserved : goal.loop-i-preserved
loop-i-preserved c = seen_step c.loop-i.invariant c.loop-i-test.true c.source-source.ensures.0 c.target-target.ensures.0 c.meet_road.ensures c.in-Some.is

pub is_through-requires : goal.is_through-requires
is_through-requires c = few _ _ c.loop-i.invariant.clean

pub returns : goal.returns
returns c = seen_end c.loop-i.invariant c.loop-i-test.false c.loop-i.auto.i-end c.is_through.ensures
