use Rattle.std.proofs.Common.{◌≡◌, rules, sym, ap, ◌∙◌}
use Rattle.std.proofs.lemmas.Result.{err_from_is_err_and}
use Rattle.model.specs.Decode.{after_leg}
use Rattle.sheet.specs.Contents.{contents}
use Rattle.legs.specs.Found.{middle_search_at, leg_end_of}
use Rattle.lines.specs.Legs.{refusal, refused_leg}
use Rattle.lines.proofs.Ends.{found_route, no_route, after_none}
use Rattle.lines.proofs.Owned.{priced, leg_end_is, route_is, route_known, walked}
use Rattle.lines.proofs.leg.walk_leg.Goals as goal

pub invariant_of-leg : goal.invariant_of-leg
invariant_of-leg c = let sheet = c.args.areas.now.sheet in record { priced = priced sheet.bytes.now sheet.counts sheet.well_formed c.args.i c.leg_limits-limits.ensures }

pub returns-in_err-route-clause-written : goal.returns-in_err-route-clause-written
returns-in_err-route-clause-written c =
    let t = contents c.args.areas.now.sheet in
    let i = c.args.i in
    let slots = c.args.areas.now.slots in
    let points = c.requires.points in
    let find = middle_search_at t slots c.leg_limits-limits.result in
    let is = leg_end_is t slots i c.find_best_path.result c.leg_limits-limits.ensures points.2.are points.3.are c.find_best_path.ensures.means in
    let none = no_route c.find_best_path.result _ _ c.map_err.ensures.cases _ c.in_err-route.was in
    let closure = none.2 in
    let why : c.in_err-route.field-0.0 ≡ refused_leg i none.0 = search rules in
    let out = err_from_is_err_and c.from_residual.result c.from_residual.ensures.1 in
    rw (out.1, out.2) (λ next. ap (λ x. after_leg i x next) (sym is ∙ ap (leg_end_of find) none.1) ∙ after_none find i none.0 next ∙ ap refusal (sym why))

pub leave-requires-clause-known : goal.leave-requires-clause-known
leave-requires-clause-known c =
    let sheet = c.args.areas.now.sheet in
    let points = c.requires.points in
    let found = found_route c.find_best_path.result _ _ c.map_err.ensures.cases _ c.in_ok-route.was in
    let led = rw found at c.find_best_path.ensures.led in
    let middle = walked _ c.find_best_path.new.areas _ led sheet c.find_best_path.ensures.same_room.sheet _ c.traced-middle.ensures points.1 in
    let is = route_is (contents sheet) c.args.areas.now.slots c.args.i c.find_best_path.result c.leg_limits-limits.ensures points.2.are points.3.are c.find_best_path.ensures.means _ _ found middle.roads in
    (route_known sheet.bytes.now sheet.counts sheet.well_formed c.args.areas.now.slots c.args.i points.0 _ _ _ middle is, middle.count, c.requires.room.0)

pub returns-clause-written : goal.returns-clause-written
returns-clause-written c =
    let sheet = c.args.areas.now.sheet in
    let points = c.requires.points in
    let found = found_route c.find_best_path.result _ _ c.map_err.ensures.cases _ c.in_ok-route.was in
    let led = rw found at c.find_best_path.ensures.led in
    let middle = walked _ c.find_best_path.new.areas _ led sheet c.find_best_path.ensures.same_room.sheet _ c.traced-middle.ensures points.1 in
    let is = route_is (contents sheet) c.args.areas.now.slots c.args.i c.find_best_path.result c.leg_limits-limits.ensures points.2.are points.3.are c.find_best_path.ensures.means _ _ found middle.roads in
    (_, sym is, rw c.leg_limits-limits.ensures at c.leave.ensures.written)
