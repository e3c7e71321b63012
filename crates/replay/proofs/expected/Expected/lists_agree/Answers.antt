use Rattle.std.proofs.Common.{rules, refl}
use Rattle.std.specs.Float.{nan}
use Rattle.replay.proofs.expected.Expected.lists_agree.Goals.{then-self-lengths, else-self-lengths}
use Rattle.replay.proofs.expected.Expected.lists_agree.Goals as goal

pub returns-then-entries_agree : goal.returns-then-entries_agree
returns-then-entries_agree c = λ e. record {
  ids_agree = λ i h. elim c.if-self-lengths.branch [ then-self-lengths w ↦ let is = w.entries_agree.ensures (cc) i 0 h in search (rules, is) | else-self-lengths w ↦ absurd (cc) ];
  lengths_agree = λ i h. c.entries_agree-then-entries_agree.ensures e i nan h refl;
}
