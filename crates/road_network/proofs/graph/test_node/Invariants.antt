use Rattle.sheet.specs.Contents.{contents}
use Rattle.road_network.proofs.Kept.{Seen}
use Rattle.road_network.proofs.graph.test_node.Given as goal

abbrev pub invariant-loop-i : goal.invariant-loop-i
invariant-loop-i l = Seen (contents l.sheet) l.v l.e l.i l.known
