use Rattle.sheet.specs.Contents.{contents}
use Rattle.candidates.specs.Found.{CandidatesOf}
use Rattle.search.specs.Areas.{SameRoom}
use Rattle.full_path.specs.Left.{SameAreas}
use Rattle.lines.proofs.Going.{SoFar}
use Rattle.lines.proofs.runs.decode_line.Given as goal

abbrev pub invariant-loop-i : goal.invariant-loop-i
invariant-loop-i l = record {
  same_room : SameRoom l.fn.areas l.areas;
  same_areas : SameAreas l.fn.coverages l.coverages;
  starts : CandidatesOf (contents l.fn.areas.sheet) l.fn.areas.sheet.counts l.i l.starts;
  so_far : SoFar l.fn.areas.sheet.bytes.now l.fn.areas.sheet.counts l.fn.areas.slots l.i l.ids l.coverages l.path;
}
