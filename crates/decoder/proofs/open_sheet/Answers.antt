use Rattle.decoder.proofs.Opening.{no_room}
use Rattle.decoder.proofs.open_sheet.Goals as goal

pub returns-then-not-has_room : goal.returns-then-not-has_room
returns-then-not-has_room c = no_room _ _ c.in_ok-sheet.sheet c.in_ok-sheet.ensures.judged c.in_ok-sheet.ensures.sheet.0 c.in_ok-sheet.ensures.sheet.1 _ c.has_room-has_room.ensures c.if-not-has_room.true
