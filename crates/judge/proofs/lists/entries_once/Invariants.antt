use Rattle.std.proofs.Common.{◌≡◌, ℕ, ◌<◌, ◌≤◌, true, length}
use Rattle.model.specs.Judge.{entry_of, entry_good}
use Rattle.judge.specs.Marks.{Marks}
use Rattle.judge.proofs.lists.entries_once.Given as goal

abbrev pub invariant-loop-j : goal.invariant-loop-j
invariant-loop-j g l =
    (l.sheet.counts.e ≤ length l.marks)
    × Marks (entry_of l.sheet.bytes.now l.sheet.counts) l.sheet.counts.e l.marks l.j
    × ((i : ℕ) → i < l.j → entry_good l.sheet.bytes.now l.sheet.counts i ≡ true)
