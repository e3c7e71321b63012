use Rattle.std.proofs.Common.{refl}
use Rattle.std.proofs.lemmas.Result.{err_from_is_err_and}
use Rattle.lines.proofs.Going.{point_written, point_refused}
use Rattle.lines.proofs.runs.decode_point_along_line.Goals as goal

pub returns-in_err-leg-clause-written : goal.returns-in_err-leg-clause-written
returns-in_err-leg-clause-written c =
    let sheet = c.args.areas.now.sheet in
    let out = err_from_is_err_and c.from_residual.result c.from_residual.ensures.1 in
    rw (out.1, out.2) (point_refused sheet.bytes.now sheet.counts c.args.areas.now.slots c.requires.points.1 _ c.in_err-leg.ensures.written)

pub returns-clause-written : goal.returns-clause-written
returns-clause-written c =
    let sheet = c.args.areas.now.sheet in
    point_written sheet.bytes.now sheet.counts c.args.areas.now.slots c.requires.points.1 c.args.ids.now _ refl c.walk_leg.new.ids c.walk_leg.new.coverages _ c.in_ok-leg.ensures.written
