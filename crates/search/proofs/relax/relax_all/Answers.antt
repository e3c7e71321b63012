use mathlib.Core.Path.{refl, sym, ap, ◌∙◌}
use native.Mathlib.Omega.{arith}
use Rattle.model.specs.Sheet.{road_at}
use Rattle.sheet.specs.Contents.{contents}
use Rattle.search.specs.Areas.{SameRoom}
use Rattle.search.proofs.Roads.{road_known, ways_of}
use Rattle.search.proofs.Growth.{same_nodes, kept_same}
use Rattle.search.proofs.Relaxing.{rest_start, rest_end, rest_skip, rest_done, rest_full, failed}
use Rattle.search.proofs.relax.relax_all.Goals as goal
use Rattle.search.proofs.relax.relax_all.Goals.{then-permits+in_ok-relax, else-permits}

pub loop-i-init : goal.loop-i-init
loop-i-init c =
    let p = c.requires in
    let sheet = c.args.search.now.sheet in
    (record { sheet = refl; slots = refl }, rest_start _ (kept_same p.ready.1) c.start-i.ensures.0 c.start-end.ensures.0 (ways_of _ _ sheet.well_formed c.args.search.now.query _ (omega (arith, same_nodes p.ready.0))))

pub relax-requires-clause-road : goal.relax-requires-clause-road
relax-requires-clause-road c =
    let known = road_known _ _ c.args.search.now.sheet.well_formed c.entry.ensures.1 c.road-r.ensures.0 in
    (omega (arith, c.road-r.ensures.2, same_nodes c.loop-i.invariant.0.sheet, same_nodes c.requires.ready.0), known.0, known.1)

pub returns-in_err-relax-clause-state : goal.returns-in_err-relax-clause-state
returns-in_err-relax-clause-state c =
    let w = c.loop-i.invariant in
    let place = c.road-r.ensures.0 ∙ ap (road_at (contents c.args.search.now.sheet)) c.entry.ensures.0 in
    failed _ _ c.from_residual.ensures.0
    ∙ rest_full w.1 c.loop-i-test.true place (sym c.permits.ensures ∙ c.if-permits.true) _ (rw w.0.slots at c.in_err-relax.ensures.state) refl

pub loop-i-preserved : goal.loop-i-preserved
loop-i-preserved c =
    let w = c.loop-i.invariant in
    let place = c.road-r.ensures.0 ∙ ap (road_at (contents c.args.search.now.sheet)) c.entry.ensures.0 in
    elim c.if-permits.branch [
      | then-permits+in_ok-relax z ↦
          let after = z.in_ok-relax.ensures in
          let room : SameRoom c.args.areas.now z.relax.new.areas = record { sheet = after.same_room.sheet ∙ w.0.sheet; slots = after.same_room.slots ∙ w.0.slots } in
          rw z.areas-is (room, rest_done w.1 c.loop-i-test.true place (sym c.permits.ensures ∙ z.if-permits.true) _ (rw w.0.slots at after.state) refl (rw w.0.slots at after.kept))
      | else-permits z ↦ rw z.areas-is (w.0, rest_skip w.1 c.loop-i-test.true place (sym c.permits.ensures ∙ z.if-permits.false))
    ]

pub returns-clause-state : goal.returns-clause-state
returns-clause-state c = rest_end c.loop-i.invariant.1 (omega arith)
