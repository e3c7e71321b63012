-- A record as a table of fields, each with its offset and its rule; the first bad field is named. Every value of a sheet is judged by such a table.
use Rattle.std.specs.Prelude.{ℕ, zero, suc, ◌+◌, Bool, true, false, ◌&&◌, ◌||◌, List, [], ◌∷◌, leb, ltb, eqb, Result, Ok, Err}
use Rattle.model.specs.Bytes.{u8_at, u16_at, u32_at, u64_at}

-- What a check finds: every field good, or where the first bad one begins.
abbrev pub Verdict : Type 0
Verdict = Result (Unit {0}) ℕ

-- A field: where it begins in its record, and whether it is good in the sheet s where the record begins at `at`.
pub record Field : Type 0 where
  pub off : ℕ
  pub good : List ℕ → ℕ → Bool

-- `rest`, where the field at `at` is good
unfoldable pub need : Bool → ℕ → Verdict → Verdict
need true at rest = rest
need false at rest = Err at

-- the first of two verdicts that is bad
infixl 20 ◌then◌
unfoldable pub ◌then◌ : Verdict → Verdict → Verdict
Ok _ then v = v
Err at then v = Err at

-- the first bad field of a record, or else `rest`
unfoldable pub check_then : List ℕ → ℕ → List Field → Verdict → Verdict
check_then s at [] rest = rest
check_then s at (f ∷ fs) rest = need (f.good s at) (at + f.off) (check_then s at fs rest)

abbrev pub check : List ℕ → ℕ → List Field → Verdict
check s at fs = check_then s at fs (Ok tt)

-- the first bad field of k records of w bytes each, which begin at `at`
unfoldable pub records : List ℕ → ℕ → List Field → ℕ → ℕ → Verdict
records s w fs zero at = Ok tt
records s w fs (suc k) at = check s at fs then records s w fs k (at + w)

-- the first of a row of verdicts that is bad
unfoldable pub first_bad_after : Verdict → List Verdict → Verdict
first_bad_after v [] = v
first_bad_after v (u ∷ us) = first_bad_after (v then u) us

unfoldable pub first_bad : List Verdict → Verdict
first_bad vs = first_bad_after (Ok tt) vs

-- ---- kinds of field, by what a good value is

abbrev pub u8 : (ℕ → Bool) → ℕ → Field
u8 ok o = record { off = o; good = λ s at. ok (u8_at s (at + o)) }

abbrev pub u16 : (ℕ → Bool) → ℕ → Field
u16 ok o = record { off = o; good = λ s at. ok (u16_at s (at + o)) }

abbrev pub u32 : (ℕ → Bool) → ℕ → Field
u32 ok o = record { off = o; good = λ s at. ok (u32_at s (at + o)) }

-- an f64 is judged by its bits
abbrev pub f64 : (ℕ → Bool) → ℕ → Field
f64 ok o = record { off = o; good = λ s at. ok (u64_at s (at + o)) }

abbrev pub up_to : ℕ → ℕ → Bool
up_to most v = leb v most

abbrev pub below : ℕ → ℕ → Bool
below n v = ltb v n

-- the bits of 10,000,000 and of 360: up to them the sign bit is clear, and there is no infinity and no NaN
abbrev pub most_f64 : ℕ
most_f64 = 0x4163_12D0_0000_0000

abbrev pub most_bearing : ℕ
most_bearing = 0x4076_8000_0000_0000

abbrev pub measured : ℕ → Bool
measured = up_to most_f64

abbrev pub bearing : ℕ → Bool
bearing = up_to most_bearing

-- k fields alike, w bytes apart, the first at o
unfoldable pub fields_alike : (ℕ → Field) → ℕ → ℕ → ℕ → List Field
fields_alike f w o zero = []
fields_alike f w o (suc k) = f o ∷ fields_alike f w (o + w) k

-- k spare bytes from o, each a field of its own that must be zero
abbrev pub zeros : ℕ → ℕ → List Field
zeros o k = fields_alike (u8 (λ v. eqb v 0)) 1 o k

-- k measures from o
abbrev pub measures : ℕ → ℕ → List Field
measures o k = fields_alike (f64 measured) 8 o k

-- ---- rows of tests

-- all of them
unfoldable pub all_after : Bool → List Bool → Bool
all_after b [] = b
all_after b (c ∷ cs) = all_after (b && c) cs

unfoldable pub all_of : List Bool → Bool
all_of bs = all_after true bs

-- the tests t at j, j + 1, .., k of them
unfoldable pub every : (ℕ → Bool) → ℕ → ℕ → Bool
every t zero j = true
every t (suc k) j = t j && every t k (j + 1)

-- whether v is among f 0, f 1, .., k of them
unfoldable pub met : (ℕ → ℕ) → ℕ → ℕ → Bool
met f v zero = false
met f v (suc k) = eqb (f k) v || met f v k
