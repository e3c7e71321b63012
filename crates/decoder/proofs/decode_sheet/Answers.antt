use Rattle.std.proofs.Common.{◌∙◌}
use Rattle.decoder.proofs.Calling.{answered_as, covers_own}
use Rattle.decoder.proofs.decode_sheet.Goals as goal

pub answer-requires-clause-found : goal.answer-requires-clause-found
answer-requires-clause-found c =
    let x = c.decode_legs-found.new.coverages in
    (c.args.areas.now.slots, x, covers_own x, c.decode_legs-found.ensures.written)

pub returns : goal.returns
returns c =
    let x = c.decode_legs-found.new.coverages in
    c.answer.ensures c.args.areas.now.slots x (covers_own x) c.decode_legs-found.ensures.written
    ∙ answered_as _ _ _ _ _ c.decode_legs-found.auto.ids
