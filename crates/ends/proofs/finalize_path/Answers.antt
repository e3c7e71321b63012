use Rattle.ends.proofs.Finish.{finished}
use Rattle.model.specs.Ends.{part_of}
use mathlib.Core.Path.{ap, ◌∙◌}
use Rattle.ends.proofs.finalize_path.Goals as goal

pub returns : goal.returns
returns c = finished _ _ _ _ _ _ _ _ _ _ _ c.requires.1 c.walk_at-e.ensures c.walk_at-b.ensures (c.walk_at-b.auto.ids ∙ c.walk_at-e.auto.ids)
    (c.part_of-start_fraction.ensures ∙ ap (part_of c.walk_at-b.result.offset) c.length_m.ensures) (c.part_of-end_fraction.ensures ∙ ap (part_of c.walk_at-e.result.offset) c.length_m-2.ensures)
