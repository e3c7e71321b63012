use Rattle.std.proofs.Common.{arith, sym}
use Rattle.search.specs.Traces.{traced_numbers}
use Rattle.full_path.specs.Left.{terminal_numbers}
use Rattle.full_path.proofs.Writing.{three_parts}
use Rattle.full_path.proofs.path.write_leg.Goals as goal

pub returns : goal.returns
returns c =
    let r = c.args.r.now in
    let first = c.write_terminal-first.ensures in
    let middle = c.write_middle-between.ensures in
    let last = c.write_terminal.ensures in
    three_parts c.args.out.now (terminal_numbers r.head) (traced_numbers c.args.middle) (terminal_numbers r.tail) _ _ _ _ _ _ first.0 (sym middle.0) last.0 (omega (arith, first.0, first.1, last.0, last.1)) first.2 middle.1 last.2
