use lib.ListN.{length}
use Rattle.answers.specs.Room.{match_of}
use Rattle.text.specs.Text.{path_line}
use Rattle.text.specs.Buffer.{Put}
use Rattle.text.proofs.Lines.{so_far}
use Rattle.text.proofs.Roads.{road, roads}
use Rattle.text.proofs.parts.Writer.matched.Given as goal

abbrev pub invariant-loop-id : goal.invariant-loop-id
invariant-loop-id l = Put (so_far (path_line (match_of l.m)) road (roads l.m.count l.ids l.lengths) (length l.yielded)) l.fn.self l.self
