use Rattle.std.proofs.Common.{◌≡◌, rules, arith, refl, sym, ◌∙◌, subst}
use Rattle.std.proofs.lemmas.Result.{err_from_is_err_and}
use Rattle.lines.specs.Legs.{no_leg_yet}
use Rattle.lines.proofs.Going.{SoFar, line_begins, line_goes_on, line_refused, line_ends}
use Rattle.lines.proofs.runs.decode_line.Goals as goal

pub loop-i-init : goal.loop-i-init
loop-i-init c =
    let sheet = c.args.areas.now.sheet in
    let none : c.default-path.result ≡ no_leg_yet = search rules in
    record {
      same_room = record { sheet = refl; slots = refl };
      same_areas = (refl, refl);
      starts = c.find_candidates-starts.ensures;
      so_far = subst (SoFar sheet.bytes.now sheet.counts c.args.areas.now.slots 0 c.args.ids.now _) (sym none) (line_begins sheet.bytes.now sheet.counts c.args.areas.now.slots c.args.ids.now _ refl);
    }

pub returns-in_err-leg-clause-written : goal.returns-in_err-leg-clause-written
returns-in_err-leg-clause-written c =
    let sheet = c.args.areas.now.sheet in
    let far = c.loop-i.invariant in
    let left = rw (far.same_room.sheet, far.same_room.slots) at c.in_err-leg.ensures.written in
    let out = err_from_is_err_and c.from_residual.result c.from_residual.ensures.1 in
    rw (out.1, out.2) (line_refused sheet.bytes.now sheet.counts c.args.areas.now.slots far.so_far (omega arith) _ left)

pub loop-i-preserved : goal.loop-i-preserved
loop-i-preserved c =
    let sheet = c.args.areas.now.sheet in
    let far = c.loop-i.invariant in
    let room = c.walk_leg.ensures.same_room in
    let left = rw (far.same_room.sheet, far.same_room.slots) at c.in_ok-leg.ensures.written in
    record {
      same_room = record { sheet = room.0.sheet ∙ far.same_room.sheet; slots = room.0.slots ∙ far.same_room.slots };
      same_areas = (room.1.0 ∙ far.same_areas.0, room.1.1 ∙ far.same_areas.1);
      starts = c.find_candidates-ends.ensures;
      so_far = rw c.extended-path.ensures (line_goes_on sheet.bytes.now sheet.counts c.args.areas.now.slots far.so_far (omega arith) c.walk_leg.new.ids c.walk_leg.new.coverages _ left);
    }

pub returns-clause-written : goal.returns-clause-written
returns-clause-written c =
    let sheet = c.args.areas.now.sheet in
    line_ends sheet.bytes.now sheet.counts c.args.areas.now.slots c.loop-i.invariant.so_far c.requires.points.1 (omega arith) (omega arith)
