use mathlib.Core.Path.{refl}
use Rattle.std.proofs.Common.{rules}
use borrow.Author.Tests.{tests}
use Rattle.std.proofs.lemmas.Iterator.{YieldsList-from_range, YieldsList-from_map}
use Rattle.std.proofs.lemmas.Iterator.Consumers.{YieldsList-at}
use Rattle.std.proofs.lemmas.Iterator.Search.{find_from_yields_List}
use Rattle.model.specs.Judge.{entry_of}
use Rattle.road_network.proofs.Ways.{ahead, ahead_is}
use Rattle.road_network.proofs.graph.way_on.Goals as goal

pub returns : goal.returns
returns c =
    let s = c.args.sheet.now.bytes.now in
    let n = c.args.sheet.now.counts in
    ahead_is s n c.args.r c.args.sheet.now.well_formed _ c.target-v.ensures c.start.ensures.0 c.start-2.ensures.0
    (find_from_yields_List (ahead s n c.args.r) _ _ c.find.result c.find.ensures.ran
    (YieldsList-from_map _ (entry_of s n) (YieldsList-at c.map.ensures.source (YieldsList-from_range _ _ _ refl refl)) c.map.ensures.closure (λ x r q k. search (rules, tests))) (λ x b q k. search (rules, tests)))
