use Rattle.std.proofs.Common.{◌≡◌, ◌+◌, ◌≤◌, ◌<◌, length, take, arith, ap, sym, ◌∙◌, length-take-le, take-append-drop}
use Rattle.model.specs.Lists.{last}
use Rattle.search.specs.Traces.{traced_numbers}
use Rattle.full_path.specs.Left.{numbers_of, number_as}
use Rattle.full_path.proofs.Behind.{last_as, one_road, some_before, skipped, kept, appended_here, appended_over}
use Rattle.full_path.proofs.Writing.{behind, numbers_few}
use Rattle.full_path.proofs.path.append_leg.Goals as goal
use Rattle.full_path.proofs.path.append_leg.Goals.{then-is_some, else-is_some, then-twice, else-twice}

pub returns : goal.returns
returns c =
    let r = c.args.r.now in
    let ids = c.args.ids.now in
    let n = c.args.n in
    let from = c.if-twice.from in
    let ks = traced_numbers c.args.middle in
    let ns = numbers_of r ks in
    let room : n + length ns ≤ length ids = omega (arith, numbers_few r ks) in
    let before : number_as c.copied-last.result ≡ last (take n ids) = ap number_as (c.copied-last.ensures ∙ c.last.ensures.value) ∙ last_as (take n ids) in
    let o = c.copied-last.result in
    let p = c.first_number-first.result in
    let twice : c.if-is_some.twice ≡ one_road o p = elim c.if-is_some.branch [
      | then-is_some v ↦ rw (sym c.is_some.ensures ∙ v.if-is_some.true) (v.twice-is ∙ v.eq-twice.ensures ∙ grind arith)
      | else-is_some v ↦ rw (sym c.is_some.ensures ∙ v.if-is_some.false) (v.twice-is ∙ v.if-is_some.false)
    ] in
    elim c.if-twice.branch [
      | then-twice w ↦
          let same = skipped o p _ ns before c.first_number-first.ensures (sym twice ∙ w.if-twice.true) in
          let some : 0 < n = some_before ids n same.0 same.1 in
          let front : length (take from ids) ≡ from = length-take-le from ids (omega arith) in
          appended_over ids ns _ n from room (behind ids ids (take from ids) ns _ from (sym front) (omega arith) (rw front (sym (take-append-drop from ids))) c.write_leg.ensures) (omega arith) (omega arith) same.0 same.1 same.2
      | else-twice w ↦
          let front : length (take from ids) ≡ from = length-take-le from ids (omega arith) in
          appended_here ids ns _ n from room (behind ids ids (take from ids) ns _ from (sym front) (omega arith) (rw front (sym (take-append-drop from ids))) c.write_leg.ensures) (omega arith) w.from-is (kept o p _ ns before c.first_number-first.ensures (sym twice ∙ w.if-twice.false))
    ]
