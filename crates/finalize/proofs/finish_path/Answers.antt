use Rattle.std.proofs.Common.{◌≡◌, take, arith}
use Rattle.std.proofs.lemmas.Grind.{common_steps}
use Rattle.finalize.proofs.Closing.{ends_are}
use Rattle.sheet.specs.Contents.{contents}
use Rattle.answers.specs.Room.{answer_of}
use Rattle.model.specs.Call.{answered, match_of}
use Rattle.finalize.proofs.finish_path.Goals as goal

pub returns : goal.returns
unfolding answered match_of answer_of
returns c = λ k runs.
    let n = c.args.x.written in
    let path : take n c.take_numbers.new.path ≡ take n c.args.ids.now = grind (arith, common_steps, c.take_numbers.ensures) in
    let ends = ends_are runs (contents c.args.sheet.now) c.settings-set.ensures path (c.snap_cap_m-start_cap.ensures _ _) (c.snap_cap_m-end_cap.ensures _ _) in
    let held = rw ends at c.finalize_path-f.ensures in
    cc
