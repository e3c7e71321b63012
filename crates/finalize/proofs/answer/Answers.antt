use Rattle.std.proofs.Common.{arith}
use Rattle.sheet.specs.Contents.{contents}
use Rattle.finalize.proofs.Closing.{stored, walks_fit, uncovered, covered, primary_is, roads_below, some_written, own_numbers}
use Rattle.finalize.proofs.answer.Goals as goal

pub returns-in_default : goal.returns-in_default
returns-in_default c = λ slots x are comes.
    let t = contents c.args.sheet.now in
    let primary = primary_is x _ _ are t _ (c.primary_edge.ensures.0 t) in
    rw (uncovered _ c.args.sheet.now.counts _ _ x c.in-Ok.is comes primary c.in_default.is) (c.refuse-in_default.ensures _)

pub finish_path-requires-clause-written : goal.finish_path-requires-clause-written
finish_path-requires-clause-written c =
    let t = contents c.args.sheet.now in
    let found = c.requires.found in
    let runs = stored _ c.args.sheet.now.counts _ _ _ c.in-Ok.is found.3 in
    let primary = primary_is found.1 _ _ found.2 t _ (c.primary_edge.ensures.0 t) in
    let matched = covered _ c.args.sheet.now.counts _ _ _ c.in-Ok.is found.3 primary c.in-Some.is in
    let own = c.primary_edge.ensures.1 _ (roads_below found.1 _ _ found.2 _ runs.below) in
    let fits = walks_fit _ c.args.sheet.now.counts _ _ _ c.in-Ok.is found.3 in
    (rw c.in-Some.is at own, some_written runs.written c.args.sheet.now _ matched (omega arith), own_numbers runs.written c.args.sheet.now _ matched (omega arith))

pub returns : goal.returns
returns c = λ slots x are comes.
    let t = contents c.args.sheet.now in
    let primary = primary_is x _ _ are t _ (c.primary_edge.ensures.0 t) in
    rw (covered _ c.args.sheet.now.counts _ _ x c.in-Ok.is comes primary c.in-Some.is) (c.finish_path.ensures _ (stored _ c.args.sheet.now.counts _ _ x c.in-Ok.is comes).written)
