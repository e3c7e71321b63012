-- A refusal of the judge has a number from 1 to 5, and no second place.
use Rattle.std.proofs.Common.{ℕ, ◌≡◌, ◌≤◌, Bool, true, false, Ok, Err, List, length, refl, subst, arith, leb}
use Rattle.model.specs.declared.error.DecodeError.{DecodeError}
use Rattle.model.specs.declared.error.DecodeError.TheVariants.{NoPath}
use Rattle.model.specs.Refusals.{number_of, place_b}
use Rattle.model.specs.Layout.{counts_of, header_size}
use Rattle.model.specs.Table.{Verdict}
use Rattle.model.specs.Judge.{Judged, Fine, Refused, counts_good, offsets_good, fields_good, lists_good, rows_good, refuse, refuse_field, judged}

abbrev Early : Judged → Type 0
Early Fine = Unit {0}
Early (Refused n at) = (1 ≤ n) × (n ≤ 5)

refuse_early : (n : ℕ) (b : Bool) (j : Judged) → (1 ≤ n) × (n ≤ 5) → Early j → Early (refuse n b j)
unfolding refuse
refuse_early n true j h k = k
refuse_early n false j h k = h

field_early : (v : Verdict) (j : Judged) → Early j → Early (refuse_field v j)
unfolding refuse_field
field_early (Ok _) j k = k
field_early (Err at) j k = (omega arith, omega arith)

judged_early : (s : List ℕ) → Early (judged s)
unfolding judged
judged_early s =
    let c = counts_of s in
    refuse_early 1 (leb header_size (length s)) _ (omega arith, omega arith)
    (refuse_early 2 (counts_good c) _ (omega arith, omega arith)
    (refuse_early 3 (offsets_good s c) _ (omega arith, omega arith)
    (field_early (fields_good s c) _
    (refuse_early 5 (lists_good s c) _ (omega arith, omega arith)
    (refuse_early 5 (rows_good s c) Fine (omega arith, omega arith) tt)))))

pub early : (s : List ℕ) (n at : ℕ) → judged s ≡ Refused n at → (1 ≤ n) × (n ≤ 5)
early s n at e = subst Early e (judged_early s)

pub no_second : (e : DecodeError) → number_of e ≤ 5 → place_b e ≡ 0
no_second (NoPath a b) h = absurd (omega arith)
no_second _ h = refl
