use Rattle.std.proofs.Common.{ℕ, ◌^◌, ◌<◌, ◌≤◌, [], w64, get_or, arith, ltb-true}
use borrow.Author.Count.{below_more}
use Rattle.std.specs.Int.{from_le_bytes}
use Rattle.std.proofs.lemmas.List.Elements.{All-from_get_or}
use Rattle.model.specs.Table.{most_f64}
use Rattle.ranges.proofs.Measuring.{clear_measured}
use Rattle.ranges.proofs.measures.all_measured.Goals as goal

pub loop-word-preserved : goal.loop-word-preserved
loop-word-preserved c = λ h.
    let l = c.loop-word in
    let v : ℕ = c.from_le_bytes-v.result in
    let fits : v < 2 ^ 64 = omega arith in
    let one = clear_measured l.all v fits h in
    below_more (λ j. from_le_bytes w64 (get_or c.args.words.now j []) ≤ most_f64) l.word-index (l.invariant one.0) (rw c.from_le_bytes-v.ensures at one.1)

pub returns : goal.returns
returns c = λ e. All-from_get_or (λ w. from_le_bytes w64 w ≤ most_f64) c.args.words.now [] (λ j l. c.loop-word.invariant (ltb-true _ _ e) j (omega arith))
