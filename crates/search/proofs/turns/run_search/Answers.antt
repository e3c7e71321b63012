use mathlib.Core.Path.{◌∙◌}
use Prim.Native.Nat.{ℕ}
use native.Mathlib.Omega.{arith}
use Rattle.search.specs.Query.{query_at}
use Rattle.search.proofs.Growth.{same_nodes}
use Rattle.search.proofs.Runs.{run_end, taken_node, rest_proper, run_stop, run_on, run_less}
use Rattle.search.proofs.Visits.{ended}
use Rattle.search.proofs.turns.run_search.Goals as goal

pub visit-requires-clause-ready : goal.visit-requires-clause-ready
visit-requires-clause-ready c =
    let w = c.loop-entry.invariant in
    let room = c.in-Some.ensures.same_room in
    (room.sheet ∙ w.0.sheet ∙ c.requires.0.0, rw (room.slots, w.0.slots) (rest_proper w.1 c.in-Some.ensures.left))

pub visit-requires-clause-labelled : goal.visit-requires-clause-labelled
visit-requires-clause-labelled c =
    let w = c.loop-entry.invariant in
    let taken = taken_node w.1 c.in-Some.ensures.top c.in-Some.ensures.left in
    (omega (arith, taken.0, same_nodes c.in-Some.ensures.same_room.sheet, same_nodes w.0.sheet, same_nodes c.requires.0.0), taken.1)

pub returns-in_err-arrived-clause-found : goal.returns-in_err-arrived-clause-found
returns-in_err-arrived-clause-found c = λ steps.
    let w = c.loop-entry.invariant in
    let same = c.in-Some.ensures.same_room.slots ∙ w.0.slots in
    ended steps (query_at c.args.search.now) _ _ c.from_residual.ensures.0
    ∙ run_stop w.1 c.in-Some.ensures.top c.in-Some.ensures.left steps (rw same at (c.in_err-arrived.ensures.state steps))

pub returns-then-arrived-clause-found : goal.returns-then-arrived-clause-found
returns-then-arrived-clause-found c = λ steps.
    let w = c.loop-entry.invariant in
    let same = c.in-Some.ensures.same_room.slots ∙ w.0.slots in
    run_stop w.1 c.in-Some.ensures.top c.in-Some.ensures.left steps (rw (c.if-arrived.true, same) at (c.in_ok-arrived.ensures.state steps))

pub loop-entry-smaller : goal.loop-entry-smaller
loop-entry-smaller c =
    let w = c.loop-entry.invariant in
    let same = c.in-Some.ensures.same_room.slots ∙ w.0.slots in
    run_less w.1 c.in-Some.ensures.top c.in-Some.ensures.left (rw same at c.in_ok-arrived.ensures.kept)

pub loop-entry-preserved : goal.loop-entry-preserved
loop-entry-preserved c =
    let w = c.loop-entry.invariant in
    let popped = c.in-Some.ensures.same_room in
    let after = c.in_ok-arrived.ensures in
    let same = popped.slots ∙ w.0.slots in
    let visited = λ (steps : ℕ). rw (c.if-arrived.false, same) at (after.state steps) in
    (record { sheet = after.same_room.sheet ∙ popped.sheet ∙ w.0.sheet; slots = after.same_room.slots ∙ same }, run_on w.1 c.in-Some.ensures.top c.in-Some.ensures.left (rw same at after.kept) visited)

pub returns-clause-stands : goal.returns-clause-stands
returns-clause-stands c =
    let w = c.loop-entry.invariant in
    let room = c.in_default.ensures.same_room in
    (room.sheet ∙ w.0.sheet ∙ c.requires.0.0, rw (room.slots, w.0.slots) (rest_proper w.1 c.in_default.ensures.left))

pub returns-clause-found : goal.returns-clause-found
returns-clause-found c = run_end c.loop-entry.invariant.1 c.in_default.ensures.top
