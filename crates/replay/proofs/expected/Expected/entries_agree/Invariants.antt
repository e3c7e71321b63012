use Rattle.std.proofs.Common.{ℕ, true, ◌<◌, get_or}
use Rattle.replay.specs.Agreeing.{word_at}
use Rattle.replay.proofs.expected.Expected.entries_agree.Given as goal

abbrev pub invariant-loop-i : goal.invariant-loop-i
invariant-loop-i g l = (k : ℕ) (d : _) → k < l.i → goal.F-post g l.same (get_or l.entries k d) (word_at l.self k l.word l.rest) true
