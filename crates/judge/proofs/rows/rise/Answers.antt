use Rattle.std.proofs.Common.{◌≡◌, ℕ, ◌+◌, ◌-◌, ◌<◌, ◌≤◌, ltb, arith, le-ltb, lt-ltb}
use borrow.Author.Count.{below_more}
use Rattle.judge.proofs.Tests.{every_true, every_false}
use Rattle.judge.proofs.rows.rise.Goals as goal

pub returns-then-number : goal.returns-then-number
returns-then-number g c = λ f gives.
    let a = c.args in
    let i = c.loop-i.i in
    let end = c.saturating_sub-i-end.ensures in
    let there : a.from + (i - a.from) ≡ i = omega arith in
    let here : c.number-in-loop-i.result ≡ f i = gives i (omega arith) (omega arith) c.number-in-loop-i.result c.number-in-loop-i.ensures in
    let next : c.number.result ≡ f (i + 1) = gives (i + 1) (omega arith) (omega arith) c.number.result c.number.ensures in
    every_false (λ j. ltb (f j) (f (j + 1))) (a.k - 1) a.from (i - a.from) (omega arith) (rw there (le-ltb _ _ (rw (← here, ← next) (omega arith))))

pub loop-i-preserved : goal.loop-i-preserved
loop-i-preserved g c =
    let i = c.loop-i.i in
    below_more (λ j. c.args.from ≤ j → (a : ℕ) × (b : ℕ) × goal.F-post g c.args.number j a × goal.F-post g c.args.number (j + 1) b × (a < b)) i c.loop-i.invariant
    (λ l. (c.number-in-loop-i.result, c.number.result, c.number-in-loop-i.ensures, c.number.ensures, omega arith))

pub returns : goal.returns
returns g c = λ f gives.
    let a = c.args in
    let end = c.saturating_sub-i-end.ensures in
    every_true (λ j. ltb (f j) (f (j + 1))) (a.k - 1) a.from
    (λ j l.
    let h = c.loop-i.invariant (a.from + j) (omega arith) (omega arith) in
    let here : h.0 ≡ f (a.from + j) = gives (a.from + j) (omega arith) (omega arith) h.0 h.2 in
    let next : h.1 ≡ f (a.from + j + 1) = gives (a.from + j + 1) (omega arith) (omega arith) h.1 h.3 in
    lt-ltb _ _ (rw (← here, ← next) h.4))
