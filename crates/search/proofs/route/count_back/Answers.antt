use Rattle.search.proofs.Roads.{roads_few, source_within}
use Rattle.search.proofs.Walks.{walk_step, walk_leads, walk_end}
use Rattle.search.proofs.route.count_back.Goals as goal

pub loop-k-preserved : goal.loop-k-preserved
loop-k-preserved c =
    let w = c.args.sheet.now.well_formed in
    walk_step _ _ _ _ (roads_few _ _ w) c.requires.1.marks (source_within _ _ w) c.loop-k.invariant c.loop-k-test.true c.source-v.ensures.0

pub returns : goal.returns
returns c =
    let w = c.args.sheet.now.well_formed in
    let p = c.requires in
    let walk = c.loop-k.invariant in
    (walk.to, walk_leads _ _ _ _ (roads_few _ _ w) p.1.marks (source_within _ _ w) walk, walk_end _ _ _ _ (roads_few _ _ w) p.1.marks (source_within _ _ w) walk c.loop-k-test.false)
