use mathlib.Core.Path.{refl}
use native.Mathlib.Omega.{arith}
use Rattle.model.specs.Sheet.{road_at}
use Rattle.sheet.specs.Contents.{contents}
use Rattle.search.specs.Areas.{columns}
use Rattle.search.proofs.Growth.{same_nodes}
use Rattle.search.proofs.Relaxing.{real_seen, cost_seen, relax_keep, relax_better}
use Rattle.search.proofs.relax.relax.Goals as goal

pub returns-in-None-clause-state : goal.returns-in-None-clause-state
returns-in-None-clause-state c =
    let p = c.requires in
    let roads = road_at (contents c.args.search.now.sheet) in
    let a = columns c.args.areas.now in
    let offered = c.offer-offer.ensures.offered roads _ p.road.2 (real_seen roads a (omega (arith, same_nodes p.ready.0)) p.labelled.1 refl) (cost_seen roads a (omega (arith, same_nodes p.ready.0)) c.cost_there-there.ensures) in
    relax_keep _ _ _ _ _ roads offered c.in-None.is

pub returns-in-Some-clause-state : goal.returns-in-Some-clause-state
returns-in-Some-clause-state c =
    let p = c.requires in
    let roads = road_at (contents c.args.search.now.sheet) in
    let a = columns c.args.areas.now in
    let offered = c.offer-offer.ensures.offered roads _ p.road.2 (real_seen roads a (omega (arith, same_nodes p.ready.0)) p.labelled.1 refl) (cost_seen roads a (omega (arith, same_nodes p.ready.0)) c.cost_there-there.ensures) in
    relax_better _ _ _ _ _ roads offered c.in-Some.is c.enter.ensures.state
