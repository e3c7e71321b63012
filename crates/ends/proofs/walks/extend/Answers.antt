use native.Mathlib.Omega.{arith}
use Rattle.model.proofs.Parsed.{node_count}
use Rattle.bounds.proofs.FormedProof.{well_formed_formed}
use Rattle.ends.proofs.Turns.{met_first, met, unmet, walking_start, left_none, kept, met_again, too_far, has_room, walking_step}
use Rattle.ends.proofs.walks.extend.Goals as goal
use Rattle.ends.proofs.walks.extend.Goals.{then-contains-via-then-contains, then-contains-via-else-contains+then-contains-2}

pub loop-x-init : goal.loop-x-init
loop-x-init g c = walking_start _ _ _ _ _ _ _ (rw (node_count _ _) c.requires.1) c.requires.0

pub returns-then-contains : goal.returns-then-contains
returns-then-contains g c =
    met_again _ _ _ _ _ _ c.loop-x.invariant (rw c.in-Some.is at c.forced.ensures)
    (elim c.then-contains.branch [
      | then-contains-via-then-contains w ↦ met_first _ _ _ c.contains.ensures.value w.if-contains.true
      | then-contains-via-else-contains+then-contains-2 w ↦ met _ _ _ c.contains.ensures.value w.contains-else-contains.ensures.value w.if-contains.false w.if-contains-2.true
    ])

pub returns-then-cap-metres : goal.returns-then-cap-metres
returns-then-cap-metres g c =
    let fresh = unmet _ _ _ c.contains.ensures.value c.contains-else-contains.ensures.value c.if-contains.false c.if-contains-2.false in
    too_far _ _ _ _ _ _ c.loop-x.invariant (rw c.in-Some.is at c.forced.ensures) fresh c.length_m-metres.ensures c.if-cap-metres.true

pub bounds-room-count : goal.bounds-room-count
bounds-room-count g c =
    omega (arith, c.loop-x.invariant.fits, has_room _ _ _ _ _ _ c.loop-x.invariant (rw c.in-Some.is at c.forced.ensures) (unmet _ _ _ c.contains.ensures.value c.contains-else-contains.ensures.value c.if-contains.false c.if-contains-2.false) c.length_m-metres.ensures (well_formed_formed _ _ c.args.sheet.now.well_formed))

pub loop-x-smaller : goal.loop-x-smaller
loop-x-smaller g c =
    omega (arith, node_count c.args.sheet.now.bytes.now c.args.sheet.now.counts, has_room _ _ _ _ _ _ c.loop-x.invariant (rw c.in-Some.is at c.forced.ensures) (unmet _ _ _ c.contains.ensures.value c.contains-else-contains.ensures.value c.if-contains.false c.if-contains-2.false) c.length_m-metres.ensures (well_formed_formed _ _ c.args.sheet.now.well_formed))

pub loop-x-preserved : goal.loop-x-preserved
loop-x-preserved g c =
    let fresh = unmet _ _ _ c.contains.ensures.value c.contains-else-contains.ensures.value c.if-contains.false c.if-contains-2.false in
    let formed = well_formed_formed _ _ c.args.sheet.now.well_formed in
    walking_step _ _ _ _ _ _ c.loop-x.invariant (rw c.in-Some.is at c.forced.ensures) fresh c.length_m-metres.ensures formed c.if-cap-metres.false

pub returns-then-count-eq0 : goal.returns-then-count-eq0
returns-then-count-eq0 g c = left_none _ _ _ _ _ _ c.loop-x.invariant (rw c.in_default.is at c.forced.ensures) c.if-count-eq0.true

pub returns : goal.returns
returns g c = kept _ _ _ _ _ _ c.loop-x.invariant (node_count _ _) c.if-count-eq0.false (rw c.in_default.is at c.forced.ensures)
