use mathlib.Core.Path.{◌≡◌, sym, ap, subst, ◌∙◌}
use native.Mathlib.Omega.{arith}
use lib.ListN.{length}
use Rattle.search.specs.Areas.{columns, state_of, grown, Proper}
use Rattle.search.proofs.Growth.{sized, cleared, first, begun_proper, begun_state}
use Rattle.search.proofs.areas.SearchAreas.begin.Goals as goal

pub returns-clause-state : goal.returns-clause-state
returns-clause-state c = λ roads q nodes far.
    let a = c.args.self.now in
    let marks = c.fill.ensures.after (λ y e. e) in
    let begun : grown record (columns a) { came = c.fill.new.self; heap = c.clear.new.self.items; made = 0 } c.args.start first c.args.heuristic ≡ grown (cleared (columns a) (length a.came_from.now)) c.args.start first c.args.heuristic = λ i. grown record (columns a) { came = marks i; heap = (c.clear.ensures i).items; made = 0 } c.args.start first c.args.heuristic in
    ap (state_of roads a.sheet.counts.n) (c.put.ensures.put ∙ begun) ∙ begun_state (sized a) a.room.0 (omega (arith, a.labels.2)) c.requires c.args.heuristic roads q nodes far

pub returns-clause-proper : goal.returns-clause-proper
returns-clause-proper c = λ e.
    let a = c.args.self.now in
    let marks = c.fill.ensures.after (λ y e. e) in
    let begun : grown record (columns a) { came = c.fill.new.self; heap = c.clear.new.self.items; made = 0 } c.args.start first c.args.heuristic ≡ grown (cleared (columns a) (length a.came_from.now)) c.args.start first c.args.heuristic = λ i. grown record (columns a) { came = marks i; heap = (c.clear.ensures i).items; made = 0 } c.args.start first c.args.heuristic in
    subst (Proper a.sheet.counts.n e a.slots) (sym (c.put.ensures.put ∙ begun)) (begun_proper (sized a) a.room.0 (omega (arith, a.labels.2)) c.requires c.args.heuristic e)
