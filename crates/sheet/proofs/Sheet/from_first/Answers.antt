use mathlib.Core.Path.{sym, ◌∙◌}
use Rattle.model.proofs.Parsed.{first_is}
use Rattle.sheet.proofs.Sheet.from_first.Goals as goal

pub returns : goal.returns
returns c = c.distance.ensures ∙ sym (first_is _ _ _ c.requires)
