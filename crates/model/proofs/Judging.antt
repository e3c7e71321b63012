-- The refusals one by one: what each test of the judge decides, and that a sheet is well-formed where no test fails.
use Prim.Native.Nat.{ℕ, zero, suc, ◌≤◌}
use mathlib.Core.Path.{◌≡◌, refl, sym}
use mathlib.Core.Bool.{Bool, true, false, ◌&&◌}
use mathlib.Core.List.{List, [], ◌∷◌}
use native.Mathlib.Omega.{arith}
use lib.ListN.{length, get_or}
use lib.Dec.{leb}
use borrow.Author.Tests.{le-leb, leb-true, eqb-true}
use Rattle.model.specs.declared.Counts.{Counts}
use Rattle.std.specs.Prelude.{Ok, Err}
use Rattle.model.specs.Judge.{Judged}
use Rattle.model.specs.Judge.{Fine}
use Rattle.model.specs.Layout.{header_size, counts_of, total}
use Rattle.model.specs.Table.{Verdict, all_after, all_of}
use Rattle.model.specs.Judge.{counts_good, offsets_good, fields_good, lists_good, rows_good, refuse, refuse_field, judged, Small, WellFormed}

-- ---- tests that hold together

pub and_left : (a b : Bool) → (a && b) ≡ true → a ≡ true
and_left true b e = refl
and_left false b e = e

pub and_right : (a b : Bool) → (a && b) ≡ true → b ≡ true
and_right true b e = e
and_right false b e = cc

all_after_first : (b : Bool) (bs : List Bool) → all_after b bs ≡ true → b ≡ true
unfolding all_after
all_after_first b [] e = e
all_after_first b (c ∷ cs) e = and_left b c (all_after_first (b && c) cs e)

all_after_at : (b : Bool) (bs : List Bool) → all_after b bs ≡ true → (i : ℕ) → get_or bs i true ≡ true
unfolding all_after
all_after_at b [] e i = refl
all_after_at b (c ∷ cs) e zero = and_right b c (all_after_first (b && c) cs e)
all_after_at b (c ∷ cs) e (suc i) = all_after_at (b && c) cs e i

-- each of a row of tests that all hold
pub all_of_at : (bs : List Bool) → all_of bs ≡ true → (i : ℕ) → get_or bs i true ≡ true
unfolding all_of
all_of_at bs e i = all_after_at true bs e i

-- ---- one refusal

pub refuse_past : (n : ℕ) (b : Bool) (v : Judged) → b ≡ true → refuse n b v ≡ v
unfolding refuse
refuse_past n b v e = rw (e, refuse)

pub refuse_field_past : (u : Verdict) (v : Judged) → u ≡ Ok tt → refuse_field u v ≡ v
unfolding refuse_field
refuse_field_past u v e = rw (e, refuse_field)

-- what is not refused has passed the test, and the tests behind it

pub refuse_good : (n : ℕ) (b : Bool) (v : Judged) → refuse n b v ≡ Fine → b ≡ true
unfolding refuse
refuse_good n true v e = refl
refuse_good n false v e = cc

pub refuse_rest : (n : ℕ) (b : Bool) (v : Judged) → refuse n b v ≡ Fine → v ≡ Fine
unfolding refuse
refuse_rest n true v e = e
refuse_rest n false v e = cc

pub refuse_field_good : (u : Verdict) (v : Judged) → refuse_field u v ≡ Fine → u ≡ Ok tt
unfolding refuse_field
refuse_field_good (Ok _) v e = refl
refuse_field_good (Err a) v e = cc

pub refuse_field_rest : (u : Verdict) (v : Judged) → refuse_field u v ≡ Fine → v ≡ Fine
unfolding refuse_field
refuse_field_rest (Ok _) v e = e
refuse_field_rest (Err a) v e = cc

-- ---- what refusals 2 and 3 leave

pub small : (c : Counts) → counts_good c ≡ true → Small c
unfolding counts_good
small c e = record { p = leb-true _ _ (all_of_at _ e 0); n = leb-true _ _ (all_of_at _ e 1); e = leb-true _ _ (all_of_at _ e 2); m = leb-true _ _ (all_of_at _ e 3); g = leb-true _ _ (all_of_at _ e 4) }

pub whole : (s : List ℕ) (c : Counts) → offsets_good s c ≡ true → length s ≡ total c
unfolding offsets_good
whole s c e = sym (eqb-true _ _ (all_of_at _ e 7))

-- ---- a sheet that is not refused

pub well_formed : (s : List ℕ) → judged s ≡ Fine → WellFormed s (counts_of s)
unfolding judged
well_formed s e =
    let e2 = refuse_rest 1 (leb header_size (length s)) _ e in
    let e3 = refuse_rest 2 (counts_good (counts_of s)) _ e2 in
    let e4 = refuse_rest 3 (offsets_good s (counts_of s)) _ e3 in
    let e5 = refuse_field_rest (fields_good s (counts_of s)) _ e4 in
    let e6 = refuse_rest 5 (lists_good s (counts_of s)) _ e5 in
    record {
      header = refl;
      counts = refuse_good 2 (counts_good (counts_of s)) _ e2;
      offsets = refuse_good 3 (offsets_good s (counts_of s)) _ e3;
      sound = record { small = small _ (refuse_good 2 (counts_good (counts_of s)) _ e2); whole = whole _ _ (refuse_good 3 (offsets_good s (counts_of s)) _ e3); fields = refuse_field_good (fields_good s (counts_of s)) _ e4 };
      lists = refuse_good 5 (lists_good s (counts_of s)) _ e5;
      rows = refuse_good 5 (rows_good s (counts_of s)) _ e6;
    }

-- a well-formed sheet is not refused
pub well_formed_fine : (s : List ℕ) (c : Counts) → WellFormed s c → judged s ≡ Fine
unfolding judged
well_formed_fine s c w =
    let long : header_size ≤ length s = omega (arith, w.sound.whole) in
    let e = w.header in
    rw (
      refuse_past _ _ _ (le-leb _ _ long),
      refuse_past _ _ _ (rw e at w.counts),
      refuse_past _ _ _ (rw e at w.offsets),
      refuse_field_past _ _ (rw e at w.sound.fields),
      refuse_past _ _ _ (rw e at w.lists),
      refuse_past _ _ _ (rw e at w.rows),
    )
