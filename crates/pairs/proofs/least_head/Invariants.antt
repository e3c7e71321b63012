use Rattle.std.proofs.Common.{map}
use Rattle.pairs.specs.Left.{LeastOf}
use Rattle.pairs.proofs.least_head.Given as goal

abbrev pub invariant-loop-i : goal.invariant-loop-i
invariant-loop-i g l = LeastOf (map g.S.HasScore.score_of l.starts) (map g.S.HasScore.score_of l.ends) l.heads l.i l.best
