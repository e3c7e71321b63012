use mathlib.Core.Path.{sym, ◌∙◌}
use Rattle.model.proofs.Parsed.{target_is}
use Rattle.sheet.proofs.Sheet.target.Goals as goal

pub returns : goal.returns
returns c =
    let found = rw (c.sound.ensures.0, c.sound.ensures.1) at c.target.ensures in
    (found.0 ∙ sym (target_is _ _ _ c.requires), found.1)
