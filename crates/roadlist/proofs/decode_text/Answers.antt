use Rattle.answers.specs.Room.{decoded}
use Rattle.text.specs.Text.{text_of}
use Rattle.roadlist.proofs.Whole.{room_for_text, is_told}
use Rattle.roadlist.proofs.decode_text.Goals as goal

pub unwrap-size-requires : goal.unwrap-size-requires
unwrap-size-requires c =
    let d = decoded c.decode-answer.result c.decode-answer.new.ids c.decode-answer.new.lengths in
    is_told (text_of d) c.args.out.now (room_for_text d _ c.decode-answer.auto.ids c.requires) _ c.write_text.ensures.value
