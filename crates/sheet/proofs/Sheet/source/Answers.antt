use mathlib.Core.Path.{sym, ◌∙◌}
use Rattle.model.specs.Judge.{source_of}
use Rattle.model.proofs.Parsed.{source_is}
use Rattle.sheet.proofs.Sheet.source.Goals as goal

pub returns : goal.returns
unfolding source_of
returns c =
    let found = rw (c.sound.ensures.0, c.sound.ensures.1) at c.source.ensures in
    (found.0 ∙ sym (source_is _ _ _ c.requires), found.1)
