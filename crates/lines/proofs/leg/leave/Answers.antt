use Rattle.std.proofs.Common.{◌≡◌, ◌+◌, ◌-◌, length, take, arith, ap, ◌∙◌, refl, sym, rules}
use mir.Val.{bool_byte}
use Rattle.sheet.specs.Contents.{contents}
use Rattle.model.proofs.Parsed.{number_is}
use Rattle.search.specs.Traces.{traced_numbers}
use Rattle.full_path.specs.Left.{terminal_numbers, numbers_of, middle_count}
use Rattle.full_path.proofs.Numbers.{numbers_are}
use Rattle.full_path.proofs.Writing.{numbers_few}
use Rattle.lines.proofs.Leaving.{terminal_count, middle_there}
use Rattle.lines.proofs.leg.leave.Goals as goal

pub cover_leg-requires : goal.cover_leg-requires
cover_leg-requires c =
    let r = c.args.route.now in
    let known = c.requires.known in
    let first : c.from.result ≡ length (terminal_numbers r.head) = c.from.ensures ∙ ap bool_byte c.is_some.ensures ∙ terminal_count r.head in
    let between : c.map_or.result ≡ middle_count r = search rules in
    let there = middle_there r _ _ _ _ _ c.append_leg-from.ensures c.from.result first c.map_or.result (known.1 ∙ sym between) in
    rw there (known.0, known.2, (omega (arith, known.0.few), omega (arith, known.0.few)))

pub returns-clause-written : goal.returns-clause-written
returns-clause-written c =
    let sheet = c.args.sheet.now in
    let r = c.args.route.now in
    let ks = traced_numbers c.args.middle in
    let known = c.requires.known in
    let put = c.append_leg-from.ensures in
    let first : c.from.result ≡ length (terminal_numbers r.head) = c.from.ensures ∙ ap bool_byte c.is_some.ensures ∙ terminal_count r.head in
    let between : c.map_or.result ≡ middle_count r = search rules in
    let there = middle_there r _ _ _ _ _ put c.from.result first c.map_or.result (known.1 ∙ sym between) in
    let written = c.count_roads-roads.ensures.many ks known.1 in
    let end : c.args.at + (c.append_leg-from.result + c.count_roads-roads.result - c.args.at) ≡ c.append_leg-from.result + length (numbers_of r ks) = omega (arith, written, put.behind) in
    let numbers = numbers_are (contents sheet) sheet.counts r ks (number_is sheet.bytes.now sheet.counts) known.0 in
    let room = c.cover_leg.ensures.room in
    record {
      roads = ap (λ m. take m c.append_leg-from.new.ids) end ∙ put.path ∙ rw numbers;
      coverages = rw there at c.cover_leg.ensures.covered.1;
      segment = refl;
      few = omega (arith, written, numbers_few r ks, put.near, known.0.few);
      most = omega (arith, ap length there, known.0.few);
      below = c.cover_leg.ensures.covered.0;
    }
