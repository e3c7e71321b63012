use Rattle.std.proofs.Common.{◌≡◌, ℕ, ◌<◌, true}
use Rattle.model.specs.Judge.{rows_before, point_rises}
use Rattle.judge.proofs.rows.CountedSheet.points_rise.Given as goal

abbrev pub invariant-loop-i : goal.invariant-loop-i
invariant-loop-i l = (l.from ≡ rows_before l.self.sound.bytes.now l.i) × ((j : ℕ) → j < l.i → point_rises l.self.sound.bytes.now l.self.sound.counts j ≡ true)
