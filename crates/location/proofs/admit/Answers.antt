use Rattle.std.proofs.Common.{arith}
use Rattle.std.proofs.lemmas.Result.{err_from_is_err_and}
use Rattle.location.proofs.Beginning.{other_kind, no_points, point_refused, admitted}
use Rattle.location.proofs.admit.Goals as goal
use Rattle.location.proofs.admit.Goals.{in-Line, in_default}

pub returns-then-not-matches : goal.returns-then-not-matches
returns-then-not-matches c =
    let sheet = c.args.sheet.now in
    elim c.match-matches.branch [
      | in-Line w ↦ absurd (cc)
      | in_default w ↦ other_kind sheet.bytes.now sheet.counts sheet.well_formed c.kind-kind.result c.kind-kind.ensures w.in_default.not-Line w.in_default.not-PointAlongLine
    ]

pub returns-then-sheet-eq0 : goal.returns-then-sheet-eq0
returns-then-sheet-eq0 c =
    let sheet = c.args.sheet.now in
    elim c.match-matches.branch [
      | in-Line w ↦ no_points sheet.bytes.now sheet.counts sheet.well_formed c.kind-kind.result c.kind-kind.ensures w.in-Line.is c.if-sheet-eq0.true
      | in_default w ↦ absurd (cc)
    ]

pub returns-in_err-require_close_candidate : goal.returns-in_err-require_close_candidate
returns-in_err-require_close_candidate c =
    let sheet = c.args.sheet.now in
    let out = err_from_is_err_and c.from_residual.result c.from_residual.ensures.1 in
    elim c.match-matches.branch [
      | in-Line w ↦ rw (out.1, out.2) (point_refused sheet.bytes.now sheet.counts sheet.well_formed c.kind-kind.result c.kind-kind.ensures w.in-Line.is _ c.in_err-require_close_candidate.ensures)
      | in_default w ↦ absurd (cc)
    ]

pub returns : goal.returns
returns c =
    let sheet = c.args.sheet.now in
    elim c.match-matches.branch [
      | in-Line w ↦ admitted sheet.bytes.now sheet.counts sheet.well_formed c.kind-kind.result c.kind-kind.ensures w.in-Line.is (omega (arith, c.if-sheet-eq0.false)) c.in_ok-require_close_candidate.ensures
      | in_default w ↦ absurd (cc)
    ]
