-- The pairs that are left: all at the start, and none where no start has an end left. They split at a start.
use mathlib.Core.Path.{◌≡◌, refl, sym, ap, ◌∙◌}
use mathlib.Core.List.{List, [], ◌∷◌, ◌++◌, map, append_assoc}
use Prim.Native.Nat.{ℕ, zero, suc, ◌<◌, ◌≤◌, suc-le-suc}
use native.Mathlib.Nat.{not-suc-le-zero, le_of_suc-le-suc, zero-lt-suc}
use native.Mathlib.Omega.{arith}
use lib.ListN.{length, get_or, take, drop, replicate, length-replicate, get_or-replicate, drop_of_length-le}
use Rattle.model.specs.Candidates.{Candidate}
use Rattle.model.specs.Legs.{Pair, pair, pairs}
use Rattle.model.proofs.Members.{Every, every_none, every_cons, every_append, every_map}
use Rattle.candidates.specs.Found.{no_candidate}
use Rattle.pairs.specs.Left.{left}

-- ---- at the start and at the end

pub left_start : (xs ys : List Candidate) (heads : List ℕ) → length xs ≤ length heads → ((i : ℕ) → i < length xs → get_or heads i 0 ≡ 0) → left xs ys heads ≡ pairs xs ys
unfolding left pairs
left_start [] ys heads fit z = refl
left_start (x ∷ xs) ys [] fit z = absurd (not-suc-le-zero fit)
left_start (x ∷ xs) ys (h ∷ heads) fit z =
    let e : h ≡ 0 = z 0 (zero-lt-suc (length xs)) in
    rw (e, left_start xs ys heads (le_of_suc-le-suc fit) (λ i g. z (suc i) (suc-le-suc g)))

-- heads that are all 0
pub left_zeros : (xs ys : List Candidate) (k : ℕ) → length xs ≤ k → left xs ys (replicate k 0) ≡ pairs xs ys
left_zeros xs ys k fit = left_start xs ys (replicate k 0) (rw (length-replicate {A = ℕ} k 0) fit) (λ i h. get_or-replicate k i 0 0 (omega arith))

-- no start has an end left
pub left_none : (xs ys : List Candidate) (heads : List ℕ) → ((k : ℕ) → k < length xs → length ys ≤ get_or heads k 0) → left xs ys heads ≡ []
unfolding left
left_none [] ys heads f = refl
left_none (x ∷ xs) ys [] f = refl
left_none (x ∷ xs) ys (h ∷ heads) f = rw (drop_of_length-le ys (f 0 (zero-lt-suc (length xs))), left_none xs ys heads (λ k g. f (suc k) (suc-le-suc g)))

-- ---- split at start p

module _ (ys : List Candidate) where
  pub left_at : (xs : List Candidate) (hs : List ℕ) (p : ℕ) → p < length xs → p < length hs
      → left xs ys hs ≡ left (take p xs) ys (take p hs) ++ (map (pair (get_or xs p no_candidate)) (drop (get_or hs p 0) ys) ++ left (drop (suc p) xs) ys (drop (suc p) hs))
  unfolding left
  left_at [] hs p h g = absurd (not-suc-le-zero h)
  left_at (x ∷ xs) [] p h g = absurd (not-suc-le-zero g)
  left_at (x ∷ xs) (k ∷ hs) zero h g = refl
  left_at (x ∷ xs) (k ∷ hs) (suc p) h g =
      ap (λ (ps : List Pair). map (pair x) (drop k ys) ++ ps) (left_at xs hs p (le_of_suc-le-suc h) (le_of_suc-le-suc g))
      ∙ sym (append_assoc (map (pair x) (drop k ys)) (left (take p xs) ys (take p hs)) _)

-- what holds of each end from h on
every_drop : (Q : Candidate → Type 0) (h : ℕ) (ys : List Candidate) → ((j : ℕ) → h ≤ j → j < length ys → Q (get_or ys j no_candidate)) → Every Q (drop h ys)
every_drop Q zero [] q = every_none Q
every_drop Q zero (y ∷ ys) q = every_cons Q (q 0 (omega arith) (zero-lt-suc (length ys))) (every_drop Q zero ys (λ j a b. q (suc j) (omega arith) (suc-le-suc b)))
every_drop Q (suc h) [] q = every_none Q
every_drop Q (suc h) (y ∷ ys) q = every_drop Q h ys (λ j a b. q (suc j) (suc-le-suc a) (suc-le-suc b))

module _ (Q : Pair → Type 0) (ys : List Candidate) where
  pub every_row : (x : Candidate) (h : ℕ) → ((j : ℕ) → h ≤ j → j < length ys → Q (pair x (get_or ys j no_candidate))) → Every Q (map (pair x) (drop h ys))
  every_row x h q = every_map Q (pair x) (drop h ys) (every_drop (λ (y : Candidate). Q (pair x y)) h ys q)

  pub every_left : (xs : List Candidate) (hs : List ℕ) → ((k j : ℕ) → k < length xs → get_or hs k 0 ≤ j → j < length ys → Q (pair (get_or xs k no_candidate) (get_or ys j no_candidate))) → Every Q (left xs ys hs)
  unfolding left
  every_left [] hs q = every_none Q
  every_left (x ∷ xs) [] q = every_none Q
  every_left (x ∷ xs) (h ∷ hs) q = every_append Q (map (pair x) (drop h ys)) (every_row x h (λ j a b. q 0 j (zero-lt-suc (length xs)) a b)) (every_left xs hs (λ k j a b c. q (suc k) j (suc-le-suc a) b c))
