-- A run of records, by what is found of each.
use Rattle.std.proofs.Common.{◌≡◌, ℕ, zero, suc, ◌+◌, ◌*◌, ◌<◌, Bool, true, false, List, [], ◌∷◌, Ok, Err, refl, arith, eqb, suc-mul}
use Rattle.model.specs.Table.{Verdict, Field, need, ◌then◌, check, check_then, records, fields_alike, zeros, measures, u8, f64, measured}
use Rattle.model.specs.Judge.{distance_table}

module _ (s : List ℕ) (w : ℕ) (fs : List Field) where
  next : (base j : ℕ) → base + suc j * w ≡ base + w + j * w
  next base j = omega (arith, suc-mul j w)

  -- all are good
  pub records_good : (k base : ℕ) → ((j : ℕ) → j < k → Ok tt ≡ check s (base + j * w) fs) → Ok tt ≡ records s w fs k base
  unfolding records ◌then◌
  records_good zero base h = refl
  records_good (suc k) base h =
      let here : base + 0 * w ≡ base = omega arith in
      let first = rw here at (h 0 (omega arith)) in
      rw (← first, ◌then◌) (records_good k (base + w) (λ j l. rw (next base j) at (h (suc j) (omega arith))))

  -- the first bad one is record i
  pub records_bad : (k base i a : ℕ) → i < k → ((j : ℕ) → j < i → Ok tt ≡ check s (base + j * w) fs) → Err a ≡ check s (base + i * w) fs → Err a ≡ records s w fs k base
  unfolding records ◌then◌
  records_bad zero base i a l h e = elim l [ ]
  records_bad (suc k) base zero a l h e =
      let here : base + 0 * w ≡ base = omega arith in
      let first = rw here at e in
      rw (← first, ◌then◌)
  records_bad (suc k) base (suc i) a l h e =
      let here : base + 0 * w ≡ base = omega arith in
      let first = rw here at (h 0 (omega arith)) in
      rw (← first, ◌then◌) (records_bad k (base + w) i a (omega arith) (λ j m. rw (next base j) at (h (suc j) (omega arith))) (rw (next base i) at e))

-- ---- fields alike are records of one field each

need_then : (b : Bool) (a : ℕ) (u v : Verdict) → u ≡ v → need b a u ≡ (need b a (Ok tt) then v)
unfolding need ◌then◌
need_then true a u v e = e
need_then false a u v e = refl

module _ (f : ℕ → Field) (s : List ℕ) (w at : ℕ) (off : (o : ℕ) → (f o).off ≡ o) (good : (o : ℕ) → (f o).good s at ≡ (f 0).good s (at + o)) where
  alike_run : (o k : ℕ) → check_then s at (fields_alike f w o k) (Ok tt) ≡ records s w (f 0 ∷ []) k (at + o)
  unfolding fields_alike check_then records
  alike_run o zero = refl
  alike_run o (suc k) =
      let there : at + o + (f 0).off ≡ at + o = omega (arith, off 0) in
      let next : at + (o + w) ≡ at + o + w = omega arith in
      rw (good o, off o, there) (need_then _ (at + o) _ _ (rw next at (alike_run (o + w) k)))

module _ (s : List ℕ) (at o k : ℕ) where
  pub zeros_run : check_then s at (zeros o k) (Ok tt) ≡ records s 1 (u8 (λ v. eqb v 0) 0 ∷ []) k (at + o)
  zeros_run = alike_run (u8 (λ v. eqb v 0)) s 1 at (λ o. refl) (λ o. grind arith) o k

  pub measures_run : check_then s at (measures o k) (Ok tt) ≡ records s 8 distance_table k (at + o)
  unfolding distance_table
  measures_run = alike_run (f64 measured) s 8 at (λ o. refl) (λ o. grind arith) o k
