use Rattle.model.specs.Judge.{entry_of}
use Rattle.model.specs.Sheet.{road_at}
use Rattle.model.specs.Search.{relax_all}
use Rattle.sheet.specs.Contents.{contents}
use Rattle.search.specs.Query.{query_at}
use Rattle.search.specs.Areas.{columns, state_at, SameRoom}
use Rattle.search.specs.Answers.{entry_as}
use Rattle.search.proofs.Relaxing.{Rest}
use Rattle.search.proofs.relax.relax_all.Given as goal

abbrev pub invariant-loop-i : goal.invariant-loop-i
invariant-loop-i l =
    let sheet = l.search.sheet in
    let q = query_at l.search in
    let x = entry_as l.entry in
    SameRoom l.initial.areas l.areas × Rest sheet.counts.n sheet.counts.e l.initial.areas.slots q x (road_at (contents sheet)) l.search.query.constraints (entry_of sheet.bytes.now sheet.counts) l.end
    (relax_all l.initial.areas.slots q x (q.leaving x.node) (state_at sheet l.initial.areas))
    (columns l.initial.areas) (columns l.areas) l.i
