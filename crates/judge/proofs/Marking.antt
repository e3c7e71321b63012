-- Marks for the numbers that were met: none at first, one more with each turn.
use Rattle.std.proofs.Common.{◌≡◌, ℕ, ◌+◌, ◌<◌, ◌≤◌, Bool, true, false, eqb, List, length, get_or, set, replicate, sym, refl, ◌∙◌, arith, get_or-set_other, get_or-set_same, eqb-true}
use lib.ListN.{get_or-replicate}
use borrow.Author.Tests.{eqb-false}
use Rattle.model.specs.Table.{met}
use Rattle.model.proofs.Turns.{met_none, met_next}
use Rattle.judge.specs.Marks.{Clear, Marks}

-- an array that was just made
pub all_clear : (many size : ℕ) → size ≤ many → Clear size (replicate many false)
all_clear many size l v h = get_or-replicate many v false false (omega arith)

module _ (f : ℕ → ℕ) (size : ℕ) where
  pub marks_none : (marks : List Bool) → Clear size marks → Marks f size marks 0
  marks_none marks e v h = rw (met_none f v) (e v h)

  module _ (marks : List Bool) (r k : ℕ) (l : size ≤ length marks) (h : r < size) (e : f k ≡ r) (m : Marks f size marks k) where
    next_at : (v : ℕ) → v < size → (b : Bool) → eqb r v ≡ b → get_or (set marks r true) v false ≡ met f v (k + 1)
    next_at v hv true p =
        let same : r ≡ v = eqb-true r v p in
        let room : r < length marks = omega arith in
        rw (met_next, e, p, ← same) (get_or-set_same marks r true false room)
    next_at v hv false p = rw (met_next, e, p) (get_or-set_other marks r v true false (λ same. eqb-false r v p (sym same)) ∙ m v hv)

    pub marks_next : Marks f size (set marks r true) (k + 1)
    marks_next v hv = next_at v hv (eqb r v) refl
