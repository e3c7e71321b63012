use mathlib.Core.Path.{refl}
use Rattle.std.proofs.Common.{rules}
use native.Mathlib.Omega.{arith}
use borrow.Author.Tests.{tests}
use Rattle.std.proofs.lemmas.Iterator.{YieldsList-from_range}
use Rattle.std.proofs.lemmas.Iterator.Search.{find_from_yields_List}
use Rattle.road_network.proofs.Ways.{behind, behind_is}
use Rattle.road_network.proofs.graph.way_back.Goals as goal

pub returns : goal.returns
returns c =
    let s = c.args.sheet.now.bytes.now in
    let n = c.args.sheet.now.counts in
    behind_is s n c.args.r _ (find_from_yields_List (behind s n c.args.r) _ _ c.find.result c.find.ensures.ran (YieldsList-from_range 0 n.e n.e refl (omega arith)) (λ x b q k. search (rules, tests)))
