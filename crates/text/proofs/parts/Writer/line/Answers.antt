use native.Mathlib.Omega.{arith}
use mathlib.Core.Path.{refl}
use Rattle.text.specs.Text.{ascii}
use Rattle.text.proofs.Lines.{said, next_piece, whole_line}
use Rattle.text.proofs.Putting.{then_is}
use Rattle.text.proofs.parts.Writer.line.Goals as goal

pub loop-part-preserved : goal.loop-part-preserved
loop-part-preserved c = then_is c.loop-part.invariant c.part.ensures _ (next_piece _ said _ _ _ _ (omega arith) refl)

pub returns : goal.returns
unfolding ascii
returns c = then_is c.loop-part.invariant c.put-2.ensures _ (whole_line _ _ _ (omega arith))
