use Rattle.model.proofs.Fill.{Filling}
use Rattle.model.specs.Sheet.{road_at}
use Rattle.sheet.specs.Contents.{contents}
use Rattle.std.proofs.Common.{map, take}
use Rattle.answers.proofs.write_path.Given as goal

abbrev pub invariant-loop-j : goal.invariant-loop-j
invariant-loop-j l = record {
  ids : Filling (map (λ r. (road_at (contents l.sheet) r).id) (take l.j l.path)) l.initial.ids l.ids l.j;
  lengths : Filling (map (λ r. (road_at (contents l.sheet) r).length_m) (take l.j l.path)) l.initial.lengths l.lengths l.j;
}
