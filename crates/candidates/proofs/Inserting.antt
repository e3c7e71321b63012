-- Insertion of a candidate into a list that rises, of which only the first ones are kept.
use Prim.Native.Nat.{ℕ, zero, suc, ◌+◌, ◌-◌, ◌≤◌, ◌<◌, min}
use mathlib.Core.Path.{◌≡◌, refl, sym, ap, ◌∙◌}
use mathlib.Core.Logic.{⊎_elim, inl, inr}
use mathlib.Core.Bool.{Bool, true, false, cond, not}
use mathlib.Core.List.{List, [], ◌∷◌, ◌++◌}
use native.Mathlib.Nat.{le_refl, le_of_suc-le-suc, zero-lt-suc}
use native.Mathlib.Omega.{arith}
use lib.ListN.{length, take, drop, get_or, set, replicate, length-set, length-take, length-drop, length-append}
use lib.Ieee.{lt, le}
use Rattle.std.proofs.lemmas.List.{append_assoc, drop-take, drop-drop, drop-replicate, get_or_append_left, get_or_default}
use lib.Seq.{get_or-take, take-take, take_all, take_at, drop_at, length-take-le, take-append-le, take-append-add}
use Rattle.model.specs.Lists.{insert, sort, fold}
use Rattle.model.proofs.Members.{in_getD, in_take, in_insert, Every, every_none, every_cons}
use Rattle.bounds.specs.Amounts.{Amount}
use Rattle.bounds.proofs.Rank.{rank, le_rank, rank_le}
use Rattle.std.specs.List.Sorted.{IsNonDecreasingBy, IsPartitionedBy, IsPartitionPoint}
use Rattle.std.specs.List as list
use Rattle.std.proofs.lemmas.List.Sorted.{IsNonDecreasingBy-from_default, IsNonDecreasingBy-insert, IsNonDecreasingBy-take}
use Rattle.bounds.proofs.Choices.{below_or_not}
use Rattle.candidates.specs.declared.candidate.Candidate as code
use Rattle.candidates.specs.Found.{no_item, nothing, item_at, lower, Rising}
use Rattle.candidates.proofs.Ranked.{below_rank, not_below_rank, rank_not_below}

module _ {A : Type 0} (below : A → A → Bool) where
  pub length_insert : (x : A) (xs : List A) → length (insert below x xs) ≡ suc (length xs)
  unfolding insert
  length_insert x [] = refl
  length_insert x (y ∷ ys) = go (below x y) (length_insert x ys)
    where
      go : (b : Bool) → length (insert below x ys) ≡ suc (length ys) → length (cond b (x ∷ y ∷ ys) (y ∷ insert below x ys)) ≡ suc (suc (length ys))
      go true e = refl
      go false e = ap suc e

  length_inserts : (ys xs : List A) → length (fold (λ zs x. insert below x zs) ys xs) ≡ length ys + length xs
  unfolding fold
  length_inserts ys [] = omega arith
  length_inserts ys (x ∷ xs) = length_inserts (insert below x ys) xs ∙ rw (length_insert x ys) (omega arith)

  pub length_sort : (xs : List A) → length (sort below xs) ≡ length xs
  unfolding sort
  length_sort xs = length_inserts [] xs ∙ omega arith

  front_take : (n : ℕ) (y : A) (ys : List A) → take n (y ∷ ys) ≡ take n (y ∷ take n ys)
  front_take zero y ys = refl
  front_take (suc n) y ys = ap (λ (zs : List A). y ∷ zs) (sym (take-take n (suc n) ys (omega arith)))

  -- the first n after an insertion are those after an insertion into the first n
  pub take_insert : (n : ℕ) (x : A) (xs : List A) → take n (insert below x xs) ≡ take n (insert below x (take n xs))
  unfolding insert
  take_insert zero x xs = refl
  take_insert (suc n) x [] = refl
  take_insert (suc n) x (y ∷ ys) = go (below x y) (take_insert n x ys)
    where
      go : (b : Bool) → take n (insert below x ys) ≡ take n (insert below x (take n ys))
          → take (suc n) (cond b (x ∷ y ∷ ys) (y ∷ insert below x ys)) ≡ take (suc n) (cond b (x ∷ y ∷ take n ys) (y ∷ insert below x (take n ys)))
      go true e = ap (λ (zs : List A). x ∷ zs) (front_take n y ys)
      go false e = ap (λ (zs : List A). y ∷ zs) e

  -- x goes behind those that it is not below, before the first that it is below
  pub insert_at : (x d : A) (p : ℕ) (xs : List A) → p ≤ length xs → ((k : ℕ) → k < p → below x (get_or xs k d) ≡ false) → (p < length xs → below x (get_or xs p d) ≡ true)
      → insert below x xs ≡ take p xs ++ (x ∷ drop p xs)
  unfolding insert
  insert_at x d zero [] h f t = refl
  insert_at x d (suc p) [] h f t = absurd (omega arith)
  insert_at x d zero (y ∷ ys) h f t = rw (t (zero-lt-suc (length ys)))
  insert_at x d (suc p) (y ∷ ys) h f t =
      rw (f 0 (zero-lt-suc p)) (ap (λ (zs : List A). y ∷ zs) (insert_at x d p ys (le_of_suc-le-suc h) (λ k g. f (suc k) (omega arith)) (λ g. t (omega arith))))

-- ---- one after the other

-- what a list of at most `most` keeps
abbrev pub keep : ℕ → List code.Candidate → code.Candidate → List code.Candidate
keep most us x = take most (insert lower x us)

kept_on : (most : ℕ) (us xs : List code.Candidate) → fold (keep most) (take most us) xs ≡ take most (fold (λ us x. insert lower x us) us xs)
unfolding fold
kept_on most us [] = refl
kept_on most us (x ∷ xs) = ap (λ (vs : List code.Candidate). fold (keep most) vs xs) (sym (take_insert lower most x us)) ∙ kept_on most (insert lower x us) xs

pub kept_best : (most : ℕ) (xs : List code.Candidate) → fold (keep most) [] xs ≡ take most (sort lower xs)
unfolding sort
kept_best zero xs = kept_on zero [] xs
kept_best (suc most) xs = kept_on (suc most) [] xs

-- ---- in an array

module _ {A : Type 0} where
  -- x behind the first p, and the next j behind it
  abbrev put_at : ℕ → ℕ → A → List A → List A
  put_at p j x xs = take p xs ++ (x ∷ take j (drop p xs))

  -- the first `stay` from place p on have moved up by one, into the place behind them
  abbrev pub moved : ℕ → ℕ → List A → List A
  moved p stay xs = take (suc p) xs ++ (take (stay - p) (drop p xs) ++ drop (suc stay) xs)

  one_moves : (j k : ℕ) (d : A) (xs rest : List A) → suc j < length xs → set (take (suc (suc j)) xs ++ (take k (drop (suc j) xs) ++ rest)) (suc j) (get_or xs j d) ≡ take (suc j) xs ++ (take (suc k) (drop j xs) ++ rest)
  one_moves j k d [] rest h = absurd (omega arith)
  one_moves zero k d (y ∷ []) rest h = absurd (omega arith)
  one_moves zero k d (y ∷ z ∷ xs) rest h = refl
  one_moves (suc j) k d (y ∷ xs) rest h = ap (λ (ys : List A). y ∷ ys) (one_moves j k d xs rest (omega arith))

  one_put : (p : ℕ) (x : A) (xs rest : List A) → p < length xs → set (take (suc p) xs ++ rest) p x ≡ take p xs ++ (x ∷ rest)
  one_put p x [] rest h = absurd (omega arith)
  one_put zero x (y ∷ xs) rest h = refl
  one_put (suc p) x (y ∷ xs) rest h = ap (λ (ys : List A). y ∷ ys) (one_put p x xs rest (omega arith))

  module _ (stay : ℕ) (xs : List A) (fit : stay < length xs) where
    -- the one at j and those in front of it have not moved
    still : (p j : ℕ) (d : A) → j ≤ p → p ≤ stay → get_or (moved p stay xs) j d ≡ get_or xs j d
    still p j d h g = get_or_append_left (take (suc p) xs) _ d j (omega (arith, length-take-le (suc p) xs (omega arith))) ∙ get_or-take (suc p) xs j d (omega arith)

    more_moved : (j : ℕ) (d : A) → j < stay → set (moved (suc j) stay xs) (suc j) (get_or xs j d) ≡ moved j stay xs
    more_moved j d h =
        let k : stay - j ≡ suc (stay - suc j) = omega arith in
        rw k (one_moves j (stay - suc j) d xs (drop (suc stay) xs) (omega arith))

    moved_long : (p : ℕ) → p ≤ stay → length (moved p stay xs) ≡ length xs
    moved_long p h = length-append (take (suc p) xs) _ ∙ rw (length-append (take (stay - p) (drop p xs)) (drop (suc stay) xs))
        (omega (arith, length-take-le (suc p) xs (omega arith), length-take-le (stay - p) (drop p xs) (omega (arith, length-drop p xs)), length-drop (suc stay) xs))

    -- x in place p
    module _ (p : ℕ) (x : A) (h : p ≤ stay) where
      put_is_at : set (moved p stay xs) p x ≡ put_at p (stay - p) x xs ++ drop (suc stay) xs
      put_is_at = one_put p x xs _ (omega arith) ∙ sym (append_assoc (take p xs) (x ∷ take (stay - p) (drop p xs)) (drop (suc stay) xs))

      put_long : length (put_at p (stay - p) x xs) ≡ suc stay
      put_long = length-append (take p xs) _ ∙ omega (arith, length-take-le p xs (omega arith), length-take-le (stay - p) (drop p xs) (omega (arith, length-drop p xs)))

      pub put_front : take (suc stay) (set (moved p stay xs) p x) ≡ put_at p (stay - p) x xs
      put_front = rw put_is_at (take_at (put_at p (stay - p) x xs) _ (suc stay) put_long)

      pub put_back : drop (suc stay) (set (moved p stay xs) p x) ≡ drop (suc stay) xs
      put_back = rw put_is_at (drop_at (put_at p (stay - p) x xs) _ (suc stay) put_long)

  pub take_within : (m n : ℕ) (xs : List A) → take m (take n xs) ≡ take (min m n) xs
  take_within m n xs = ⊎_elim
      (λ (g : m < n). let e : min m n ≡ m = omega arith in rw e (take-take m n xs (omega arith)))
      (λ (g : n ≤ m). let e : min m n ≡ n = omega arith in rw e (take_all m (take n xs) (omega (arith, length-take n xs))))
      (below_or_not m n)

  -- what is kept of x behind the first p, as it stands in the array
  kept_put : (most n p j : ℕ) (x : A) (xs : List A) → p ≤ n → n ≤ length xs → p < most → p + j ≡ min n (most - 1)
      → take most (take p (take n xs) ++ (x ∷ drop p (take n xs))) ≡ put_at p j x xs
  kept_put most n p j x xs a b c e =
      let q : ℕ = most - suc p in
      let us = take p (take n xs) in
      let vs = drop p (take n xs) in
      let front : us ≡ take p xs = take-take p n xs a in
      let m : most ≡ length us + suc q = omega (arith, ap length front, length-take-le p xs (omega arith)) in
      let z : n ≡ p + (n - p) = omega arith in
      let back : vs ≡ take (n - p) (drop p xs) = ap (λ (k : ℕ). drop p (take k xs)) z ∙ drop-take p (n - p) xs in
      let w : min q (n - p) ≡ j = omega arith in
      ap (λ (k : ℕ). take k (us ++ (x ∷ vs))) m ∙ take-append-add us (x ∷ vs) (suc q)
      ∙ rw (front, back, take_within q (n - p) (drop p xs), w)

-- ---- into a list that rises

abbrev Scored : code.Candidate → Type 0
Scored y = Amount y.score

abbrev score_rank : code.Candidate → ℕ
score_rank y = rank y.score

every_place : (P : code.Candidate → Type 0) (xs : List code.Candidate) → ((k : ℕ) → k < length xs → P (item_at xs k)) → Every P xs
every_place P [] f = every_none P
every_place P (x ∷ xs) f = every_cons P (f 0 (zero-lt-suc (length xs))) (every_place P xs (λ k h. f (suc k) (omega arith)))

-- by their ranks
ranks_rise : (xs : List code.Candidate) → Rising xs → IsNonDecreasingBy score_rank xs
ranks_rise xs r = IsNonDecreasingBy-from_default score_rank xs no_item (λ i j le l. ⊎_elim
    (λ (g : i < j). le_rank (item_at xs i).score (item_at xs j).score (r.amounts i (omega arith)) (r.amounts j l) (r.rise i j g l))
    (λ (g : j ≤ i). let same : i ≡ j = omega arith in rw same (le_refl _))
    (below_or_not i j))

rising_by_ranks : (xs : List code.Candidate) → Every Scored xs → IsNonDecreasingBy score_rank xs → Rising xs
rising_by_ranks xs s h =
    let inside : (k : ℕ) → k < length xs → Scored (item_at xs k) = λ k l. s (item_at xs k) (in_getD xs k no_item l) in
    record { amounts = inside; rise = λ j k g l. rank_le (item_at xs j).score (item_at xs k).score (inside j (omega arith)) (inside k l) (h j k no_item (omega arith) l) }

not_true : (b : Bool) → not b ≡ true → b ≡ false
not_true true e = cc
not_true false e = refl

not_false : (b : Bool) → not b ≡ false → b ≡ true
not_false true e = refl
not_false false e = cc

-- whether y may stand in front of x
abbrev pub in_front : code.Candidate → code.Candidate → Bool
in_front x y = not (lt x.score y.score)

-- the first i may, and no other
abbrev pub Placed : code.Candidate → List code.Candidate → ℕ → Type 0
Placed x xs i = IsPartitionPoint (λ y. in_front x y ≡ true) (λ y. in_front x y ≡ false) xs i

pub rising_none : Rising []
rising_none = record { amounts = λ k h. absurd (omega arith); rise = λ j k g h. absurd (omega arith) }

module _ (x : code.Candidate) (p : Amount x.score) (xs : List code.Candidate) (r : Rising xs) where
  scored : Every Scored xs
  scored = every_place Scored xs r.amounts

  -- whether y may is told by the ranks
  front_rank : (y : code.Candidate) → Scored y → in_front x y ≡ true → rank y.score ≤ rank x.score
  front_rank y q e = not_below_rank x.score y.score p q (not_true (lt x.score y.score) e)

  -- one that may has no later one in front of it that may not
  pub parted : IsPartitionedBy (in_front x) xs
  parted i j d le l e =
      let a = get_or xs i d in
      let b = get_or xs j d in
      let under = front_rank b (scored b (in_getD xs j d l)) e in
      let on = ranks_rise xs r i j d le l in
      ap not (rank_not_below x.score a.score p (scored a (in_getD xs i d (omega arith))) (omega arith))

  -- told by the two beside its place
  pub placed : (i : ℕ) → i ≤ length xs → (0 < i → lt x.score (item_at xs (i - 1)).score ≡ false) → (i < length xs → lt x.score (item_at xs i).score ≡ true) → Placed x xs i
  placed i h behind above = (front, back)
    where
      front : (k : ℕ) (d : code.Candidate) → 0 ≤ k → k < i → in_front x (get_or xs k d) ≡ true
      front k d z l =
          let last : in_front x (get_or xs (i - 1) d) ≡ true = rw (get_or_default xs (i - 1) d no_item (omega arith)) (ap not (behind (omega arith))) in
          parted k (i - 1) d (omega arith) (omega arith) last

      back : (k : ℕ) (d : code.Candidate) → i ≤ k → k < length xs → in_front x (get_or xs k d) ≡ false
      back k d l g = go (in_front x (get_or xs k d)) refl
        where
          next : in_front x (get_or xs i d) ≡ false
          next = rw (get_or_default xs i d no_item (omega arith)) (ap not (above (omega arith)))

          go : (b : Bool) → in_front x (get_or xs k d) ≡ b → b ≡ false
          go true e = sym (parted i k d l g e) ∙ next
          go false e = refl

  -- with x behind the first i, of which none is above it and the next one is
  module _ (i : ℕ) (h : i ≤ length xs) (f : Placed x xs i) where
    pub put_is : insert lower x xs ≡ list.insert xs i x
    put_is = insert_at lower x no_item i xs h (λ k g. not_true (lt x.score (item_at xs k).score) (f.0 k no_item (omega arith) g)) (λ g. not_false (lt x.score (item_at xs i).score) (f.1 i no_item (le_refl i) g))

    pub rising_insert : (most : ℕ) → Rising (take most (insert lower x xs))
    rising_insert most =
        let each : Every Scored (insert lower x xs) = λ z m. elim (in_insert lower x xs m) [ inl e ↦ rw e p | inr k ↦ scored z k ] in
        let order = IsNonDecreasingBy-insert score_rank xs i x (ranks_rise xs r) h
        (λ k d g. front_rank (get_or xs k d) (scored _ (in_getD xs k d (omega arith))) (f.0 k d (omega arith) g))
        (λ k d g l. let b = below_rank x.score (get_or xs k d).score p (scored _ (in_getD xs k d l)) (not_false (lt x.score (get_or xs k d).score) (f.1 k d g l)) in omega arith) in
        rising_by_ranks (take most (insert lower x xs)) (λ z m. each z (in_take most (insert lower x xs) m)) (IsNonDecreasingBy-take score_rank most (insert lower x xs) (rw put_is order))

    -- a full list, of which none is above it
    pub put_last : (most : ℕ) → most ≤ i → length xs ≤ most → xs ≡ take most (insert lower x xs)
    put_last most l m =
        let all : i ≡ length xs = omega arith in
        rw put_is (sym (take-append-le most (take i xs) _ (omega (arith, length-take-le i xs h)) ∙ take-take most i xs l ∙ take_all most xs m))

-- ---- in an array of which n places are used

-- x is looked for a place from the back: the first `stay` from place p on are above it, and have moved up by one
pub record Shifting (x : code.Candidate) (items now : List code.Candidate) (stay p : ℕ) : Type 0 where
  pub within : p ≤ stay
  pub are : now ≡ moved p stay items
  pub ahead : p < stay → lt x.score (item_at items p).score ≡ true

module _ (x : code.Candidate) (items : List code.Candidate) (stay : ℕ) (fit : stay < length items) (now : List code.Candidate) (j p : ℕ) (m : Shifting x items now stay p) (next : p ≡ suc j) where
  in_front_still : item_at now j ≡ item_at items j
  in_front_still = let w = m.within in ap (λ (ys : List code.Candidate). item_at ys j) m.are ∙ still stay items fit p j no_item (omega arith) m.within

  pub shifting_more : lt x.score (item_at now j).score ≡ true → Shifting x items (set now (j + 1) (item_at now j)) stay j
  shifting_more e =
      let w = m.within in
      let up : j + 1 ≡ suc j = omega arith in
      record {
        within = omega arith;
        are = rw (in_front_still, m.are, next, up) (more_moved stay items fit j no_item (omega arith));
        ahead = λ h. rw in_front_still at e;
      }

-- the first `stay` + 1 are now the list with x put in, cut
pub record Put (x : code.Candidate) (most n stay : ℕ) (items now : List code.Candidate) : Type 0 where
  pub are : take (stay + 1) now ≡ take most (insert lower x (take n items))
  pub rising : Rising (take (stay + 1) now)
  pub long : length now ≡ length items
  pub spare : (size : ℕ) → drop n items ≡ replicate (size - n) nothing → drop (stay + 1) now ≡ replicate (size - (stay + 1)) nothing

module _ (x : code.Candidate) (amount : Amount x.score) (most n stay : ℕ) (items : List code.Candidate) (rises : Rising (take n items))
    (fit : n ≤ length items) (few : length (take n items) ≤ most) (big : most ≤ length items) (room : 0 < most) (stay_is : stay ≡ min n (most - 1)) where
  abbrev used : List code.Candidate
  used = take n items

  used_long : length used ≡ n
  used_long = length-take-le n items fit

  module _ (p : ℕ) (now : List code.Candidate) (m : Shifting x items now stay p)
      (full : n ≡ most → lt x.score (item_at items stay).score ≡ true) (behind : 0 < p → lt x.score (item_at now (p - 1)).score ≡ false) where
    before : 0 < p → item_at used (p - 1) ≡ item_at now (p - 1)
    before g = let w = m.within in get_or-take n items (p - 1) no_item (omega arith)
        ∙ sym (ap (λ (ys : List code.Candidate). item_at ys (p - 1)) m.are ∙ still stay items (omega arith) p (p - 1) no_item (omega arith) m.within)

    after : p < n → lt x.score (item_at items p).score ≡ true
    after l = let w = m.within in ⊎_elim m.ahead (λ (k : stay ≤ p). let same : p ≡ stay = omega arith in rw same (full (omega (arith, used_long)))) (below_or_not p stay)

    there : Placed x used p
    there = let w = m.within in placed x amount used rises p (omega (arith, used_long))
        (λ g. rw (before g) (behind g)) (λ g. let l : p < n = omega (arith, used_long) in rw (get_or-take n items p no_item l) (after l))

    put_in : take (stay + 1) (set now p x) ≡ take most (insert lower x used)
    put_in =
        let w = m.within in
        let up : stay + 1 ≡ suc stay = omega arith in
        rw (up, m.are) (put_front stay items (omega arith) p x m.within
        ∙ sym (ap (take most) (put_is x amount used rises p (omega (arith, used_long)) there) ∙ kept_put most n p (stay - p) x items (omega arith) fit (omega arith) (omega arith)))

    pub put_there : Put x most n stay items (set now p x)
    put_there = let w = m.within in record {
      are = put_in;
      rising = rw put_in (rising_insert x amount used rises p (omega (arith, used_long)) there most);
      long = length-set now p x ∙ ap length m.are ∙ moved_long stay items (omega arith) p m.within;
      spare = λ size e.
          let up : stay + 1 ≡ suc stay = omega arith in
          let k : n + (suc stay - n) ≡ suc stay = omega (arith, used_long) in
          let left : size - n - (suc stay - n) ≡ size - suc stay = omega arith in
          rw (up, m.are) (put_back stay items (omega arith) p x m.within ∙ sym (rw k at (drop-drop (suc stay - n) n items)) ∙ ap (drop (suc stay - n)) e ∙ rw left at (drop-replicate (suc stay - n) (size - n) nothing));
    }

  -- a full list, whose last is not above x
  pub left_out : most ≤ n → lt x.score (item_at items stay).score ≡ false → used ≡ take most (insert lower x used)
  left_out l e =
      let last : n - 1 ≡ stay = omega (arith, used_long) in
      let here = placed x amount used rises n (omega (arith, used_long))
      (λ g. rw (get_or-take n items (n - 1) no_item (omega arith), last) e) (λ g. absurd (omega (arith, used_long))) in
      put_last x amount used rises n (omega (arith, used_long)) here most l few
