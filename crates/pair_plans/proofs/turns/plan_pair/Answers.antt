use Rattle.std.proofs.Common.{ℕ, Option, Some, None}
use Rattle.std.proofs.Math.Option as definition
use Rattle.model.specs.Legs as legs
use Rattle.model.specs.Legs.{MiddleSearch}
use Rattle.rules.specs.declared.Scored.{Scored}
use Rattle.rules.specs.Code.{BestIs}
use Rattle.rules.proofs.Alone.{best_alone}
use Rattle.pair_plans.specs.Turns.{Remembers}
use Rattle.pair_plans.proofs.turns.plan_pair.Goals as goal

alone_remembers : (b : Option Scored) (s : definition.Option legs.Scored) → BestIs b s → (search : MiddleSearch) (nodes : ℕ) → Remembers search nodes b
alone_remembers None s is search nodes = tt
alone_remembers (Some x) s is search nodes = rw (best_alone x s is) tt

pub returns-then-pair-clause-remembers : goal.returns-then-pair-clause-remembers
returns-then-pair-clause-remembers c = alone_remembers _ _ c.same_edge_scored.ensures
