use Rattle.text.specs.Buffer.{Put}
use Rattle.text.proofs.Lines.{so_far, said}
use Rattle.text.proofs.parts.Writer.line.Given as goal

abbrev pub invariant-loop-part : goal.invariant-loop-part
invariant-loop-part l = Put (so_far l.name said l.parts l.part-index) l.fn.self l.self
