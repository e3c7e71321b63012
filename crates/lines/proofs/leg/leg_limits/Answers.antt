use Rattle.std.proofs.Common.{◌∙◌}
use Rattle.lines.proofs.Owned.{limits_are}
use Rattle.lines.proofs.leg.leg_limits.Goals as goal

pub returns : goal.returns
returns c = c.limits_of.ensures ∙ rw c.settings.ensures (limits_are _ _ _ c.requires _ c.point.ensures.0)
