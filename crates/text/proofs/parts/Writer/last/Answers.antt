use Rattle.text.specs.Text.{ascii, line, last_lines}
use Rattle.text.proofs.Putting.{then}
use Rattle.text.proofs.parts.Writer.last.Goals as goal

pub returns : goal.returns
unfolding ascii line last_lines
returns c = then (then (then c.line.ensures c.line-2.ensures) c.line-3.ensures) c.line-4.ensures
