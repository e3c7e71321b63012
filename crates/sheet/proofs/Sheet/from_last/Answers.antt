use mathlib.Core.Path.{sym, ◌∙◌}
use Rattle.model.proofs.Parsed.{last_is}
use Rattle.sheet.proofs.Sheet.from_last.Goals as goal

pub returns : goal.returns
returns c = c.distance.ensures ∙ sym (last_is _ _ _ c.requires)
