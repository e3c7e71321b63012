use Rattle.std.proofs.Common.{arith}
use Rattle.ranges.proofs.Running.{records_good}
use Rattle.ranges.proofs.parts.goals.Goals as goal

pub returns-then-k-eq0 : goal.returns-then-k-eq0
returns-then-k-eq0 c = records_good _ _ _ _ _ (λ j l. absurd (omega arith))
