use Rattle.model.proofs.Fill.{Filling}
use Rattle.std.proofs.Common.{take}
use Rattle.answers.proofs.take_numbers.Given as goal

abbrev pub invariant-loop-j : goal.invariant-loop-j
invariant-loop-j l = Filling (take l.j l.ids) l.initial.path l.path l.j
