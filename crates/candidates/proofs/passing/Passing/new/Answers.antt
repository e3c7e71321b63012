use Rattle.candidates.proofs.Reading.{left_all}
use Rattle.candidates.proofs.Kept.{kept_measured}
use Rattle.candidates.proofs.passing.Passing.new.Goals as goal

pub returns : goal.returns
returns c =
    let s = c.args.sheet.now in
    let all = left_all s.bytes.now s.counts c.args.i c.requires in
    rw (c.settings.ensures, c.point.ensures.0, c.first_row-first.ensures.0, c.row_count.ensures.0)
    (all, rw all (kept_measured s.bytes.now s.counts c.args.i c.requires s.well_formed (rw c.row_count.ensures.0 at c.row_count.ensures.1)))
