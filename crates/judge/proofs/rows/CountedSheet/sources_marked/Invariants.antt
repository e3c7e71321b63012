use Rattle.std.proofs.Common.{◌≡◌, ℕ, ◌<◌, ◌≤◌, true}
use Rattle.model.specs.Judge.{has_goal, row_count}
use Rattle.judge.proofs.rows.CountedSheet.sources_marked.Given as goal

abbrev pub invariant-loop-k : goal.invariant-loop-k
invariant-loop-k l = (j : ℕ) → row_count l.self.sound.bytes.now 0 ≤ j → j < l.k → has_goal l.self.sound.bytes.now l.self.sound.counts j ≡ true
