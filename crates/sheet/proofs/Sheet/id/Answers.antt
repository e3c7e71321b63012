use mathlib.Core.Path.{sym, ◌∙◌}
use Rattle.model.proofs.Parsed.{id_is}
use Rattle.sheet.proofs.Sheet.id.Goals as goal

pub returns : goal.returns
returns c = rw c.roads.ensures at c.u64_at.ensures ∙ sym (id_is _ _ _ c.requires)
