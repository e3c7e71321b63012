-- Members of lists, and what tests, filters, maps and sorts do to them. Membership itself is the library's.
use Prim.Native.Nat.{ℕ, zero, suc, ◌+◌, ◌-◌, ◌≤◌, ◌<◌, suc-le-suc, zero-le}
use mathlib.Core.Path.{◌≡◌, refl, sym, ap, ap₂, ◌∙◌, subst}
use mathlib.Core.Logic.{◌⊎◌, inl, inr}
use mathlib.Core.Bool.{Bool, true, false, ◌||◌, cond}
use mathlib.Core.Option.{Option, none, some, some-injective, none-ne-some}
use mathlib.Core.List.Memᴰ
use mathlib.Core.List.{List, [], ◌∷◌, ◌++◌, map}
use native.Mathlib.Nat.{zero-lt-suc, not-suc-le-zero, le_of_suc-le-suc}
use native.Mathlib.Omega.{arith}
use lib.Dec.{T}
use lib.ListN.{length, get_or, set, take, drop, replicate, length-append, length-replicate}
use lib.Seq.{take-suc, drop-append-le, length-take-le}
use lib.Ieee.Fits.{and_l, and_r}
use Rattle.model.specs.Lists.{In, cons_if, cons_some, filter, any, all, find, head, last, init, insert, sort, tabulate, pad, filter_map, fold}

pub or_l : (a b : Bool) → T a → T (a || b)
or_l true b t = tt
or_l false b t = elim t [ ]

pub or_r : (a b : Bool) → T b → T (a || b)
or_r true b t = tt
or_r false b t = t

-- what holds of both arms holds of a choice
pub either : {A : Type 0} (P : A → Type 0) (b : Bool) {x y : A} → P x → P y → P (cond b x y)
either P true h k = h
either P false h k = k

module _ {A : Type 0} where
  pub here : {x : A} {xs : List A} → In x (x ∷ xs)
  here = Memᴰ.head refl

  pub all_at : (p : A → Bool) {x : A} {xs : List A} → T (all p xs) → In x xs → T (p x)
  unfolding all
  all_at p {x} t (Memᴰ.head {x = y} {xs} e) = subst (λ (z : A). T (p z)) (sym e) (and_l (p y) (all p xs) t)
  all_at p t (Memᴰ.tail {x = y} {xs} m) = all_at p (and_r (p y) (all p xs) t) m

  pub any_of : (p : A → Bool) {x : A} {xs : List A} → In x xs → T (p x) → T (any p xs)
  unfolding any
  any_of p {x} (Memᴰ.head {x = y} {xs} e) t = or_l (p y) (any p xs) (subst (λ (z : A). T (p z)) e t)
  any_of p (Memᴰ.tail {x = y} {xs} m) t = or_r (p y) (any p xs) (any_of p m t)

  pub in_getD : (xs : List A) (i : ℕ) (d : A) → i < length xs → In (get_or xs i d) xs
  in_getD [] i d h = absurd (not-suc-le-zero h)
  in_getD (x ∷ xs) zero d h = here
  in_getD (x ∷ xs) (suc i) d h = Memᴰ.tail (in_getD xs i d (le_of_suc-le-suc h))

  pub in_take : {x : A} (n : ℕ) (xs : List A) → In x (take n xs) → In x xs
  in_take zero xs m = absurd (Memᴰ.not-nil m)
  in_take (suc n) [] m = m
  in_take (suc n) (y ∷ ys) m = elim (Memᴰ.cases_cons m) [ inl e ↦ Memᴰ.head e | inr k ↦ Memᴰ.tail (in_take n ys k) ]

  pub in_last : (xs : List A) (x : A) → last xs ≡ some x → In x xs
  unfolding last
  in_last [] x e = absurd (none-ne-some x e)
  in_last (y ∷ []) x e = Memᴰ.head (sym (some-injective y x e))
  in_last (y ∷ z ∷ zs) x e = Memᴰ.tail (in_last (z ∷ zs) x e)

  pub in_head : (xs : List A) (x : A) → head xs ≡ some x → In x xs
  unfolding head
  in_head [] x e = absurd (none-ne-some x e)
  in_head (y ∷ ys) x e = Memᴰ.head (sym (some-injective y x e))

  -- ---- filter

  pub keep_yes : (p : A → Bool) (x : A) (xs : List A) → p x ≡ true → filter p (x ∷ xs) ≡ x ∷ filter p xs
  unfolding filter cons_if
  keep_yes p x xs e = rw (e, cons_if)

  pub keep_no : (p : A → Bool) (x : A) (xs : List A) → p x ≡ false → filter p (x ∷ xs) ≡ filter p xs
  unfolding filter cons_if
  keep_no p x xs e = rw (e, cons_if)

  -- q drops nothing that p keeps
  pub keep_keep : (p q : A → Bool) → ((x : A) → T (p x) → T (q x)) → (xs : List A) → filter p xs ≡ filter p (filter q xs)
  unfolding filter
  keep_keep p q h [] = refl
  keep_keep p q h (x ∷ xs) = go (p x) refl (q x) refl (keep_keep p q h xs)
    where
      go : (b : Bool) → p x ≡ b → (c : Bool) → q x ≡ c → filter p xs ≡ filter p (filter q xs) → filter p (x ∷ xs) ≡ filter p (filter q (x ∷ xs))
      go true e true f ih = keep_yes p x xs e ∙ ap (λ (ys : List A). x ∷ ys) ih ∙ sym (ap (filter p) (keep_yes q x xs f) ∙ keep_yes p x (filter q xs) e)
      go true e false f ih = absurd (subst T f (h x (subst T (sym e) tt)))
      go false e true f ih = keep_no p x xs e ∙ ih ∙ sym (ap (filter p) (keep_yes q x xs f) ∙ keep_no p x (filter q xs) e)
      go false e false f ih = keep_no p x xs e ∙ ih ∙ sym (ap (filter p) (keep_no q x xs f))

  pub in_keep : (p : A → Bool) {x : A} (xs : List A) → In x (filter p xs) → In x xs × T (p x)
  unfolding filter
  in_keep p [] m = absurd (Memᴰ.not-nil m)
  in_keep p {x} (y ∷ ys) m = go (p y) refl (in_keep p {x = x} ys)
    where
      go : (b : Bool) → p y ≡ b → (In x (filter p ys) → In x ys × T (p x)) → In x (y ∷ ys) × T (p x)
      go true e ih = elim (Memᴰ.cases_cons (subst (In x) (keep_yes p y ys e) m)) [
        | inl f ↦ (Memᴰ.head f, subst (λ (z : A). T (p z)) (sym f) (subst T (sym e) tt))
        | inr k ↦ (Memᴰ.tail (ih k).0, (ih k).1)
      ]
      go false e ih = let k = ih (subst (In x) (keep_no p y ys e) m) in (Memᴰ.tail k.0, k.1)

  pub keep_in : (p : A → Bool) {x : A} (xs : List A) → In x xs → p x ≡ true → In x (filter p xs)
  unfolding filter
  keep_in p [] m e = absurd (Memᴰ.not-nil m)
  keep_in p {x} (y ∷ ys) m e = go (p y) refl (Memᴰ.cases_cons m) (λ k. keep_in p ys k e)
    where
      go : (b : Bool) → p y ≡ b → (x ≡ y) ⊎ In x ys → (In x ys → In x (filter p ys)) → In x (filter p (y ∷ ys))
      go true f (inl q) ih = subst (In x) (sym (keep_yes p y ys f)) (Memᴰ.head q)
      go true f (inr k) ih = subst (In x) (sym (keep_yes p y ys f)) (Memᴰ.tail (ih k))
      go false f (inl q) ih = absurd (subst T f (subst (λ (z : A). T (p z)) q (subst T (sym e) tt)))
      go false f (inr k) ih = subst (In x) (sym (keep_no p y ys f)) (ih k)

  -- ---- first

  pub first_in : (p : A → Bool) (xs : List A) (x : A) → find p xs ≡ some x → In x xs × T (p x)
  unfolding find
  first_in p [] x e = absurd (none-ne-some x e)
  first_in p (y ∷ ys) x e = go (p y) refl e (first_in p ys x)
    where
      go : (b : Bool) → p y ≡ b → cond b (some y) (find p ys) ≡ some x → (find p ys ≡ some x → In x ys × T (p x)) → In x (y ∷ ys) × T (p x)
      go true f k ih = let q = some-injective y x k in (Memᴰ.head (sym q), subst (λ (z : A). T (p z)) q (subst T (sym f) tt))
      go false f k ih = let m = ih k in (Memᴰ.tail m.0, m.1)

  -- ---- sort

  pub in_insert : {z : A} (below : A → A → Bool) (x : A) (ys : List A) → In z (insert below x ys) → (z ≡ x) ⊎ In z ys
  unfolding insert
  in_insert below x [] m = Memᴰ.cases_cons m
  in_insert {z} below x (y ∷ ys) m = go (below x y) (in_insert {z = z} below x ys) m
    where
      later : (z ≡ x) ⊎ In z ys → (z ≡ x) ⊎ In z (y ∷ ys)
      later (inl p) = inl p
      later (inr k) = inr (Memᴰ.tail k)

      go : (b : Bool) → (In z (insert below x ys) → (z ≡ x) ⊎ In z ys) → In z (cond b (x ∷ y ∷ ys) (y ∷ insert below x ys)) → (z ≡ x) ⊎ In z (y ∷ ys)
      go true ih m = Memᴰ.cases_cons m
      go false ih m = elim (Memᴰ.cases_cons m) [ inl p ↦ inr (Memᴰ.head p) | inr k ↦ later (ih k) ]

  pub in_sort : {z : A} (below : A → A → Bool) (xs : List A) → In z (sort below xs) → In z xs
  unfolding sort fold
  in_sort {z} below xs m = elim (go [] xs m) [ inl k ↦ absurd (Memᴰ.not-nil k) | inr k ↦ k ]
    where
      go : (ys xs : List A) → In z (fold (λ us x. insert below x us) ys xs) → In z ys ⊎ In z xs
      go ys [] m = inl m
      go ys (x ∷ xs) m = elim (go (insert below x ys) xs m) [
        | inl k ↦ elim (in_insert below x ys k) [ inl p ↦ inr (Memᴰ.head p) | inr j ↦ inl j ]
        | inr k ↦ inr (Memᴰ.tail k)
      ]

  -- ---- tabulate

  pub length_tab : (n i : ℕ) (f : ℕ → A) → length (tabulate n i f) ≡ n
  unfolding tabulate
  length_tab zero i f = refl
  length_tab (suc n) i f = ap suc (length_tab n (i + 1) f)

  pub getD_tab : (n i : ℕ) (f : ℕ → A) (k : ℕ) (d : A) → k < n → get_or (tabulate n i f) k d ≡ f (i + k)
  unfolding tabulate
  getD_tab zero i f k d h = absurd (not-suc-le-zero h)
  getD_tab (suc n) i f zero d h = ap f {x = i} {y = i + 0} (omega arith)
  getD_tab (suc n) i f (suc k) d h = getD_tab n (i + 1) f k d (le_of_suc-le-suc h) ∙ ap f {x = i + 1 + k} {y = i + suc k} (omega arith)

  -- from 0
  pub getD_table : (n : ℕ) (f : ℕ → A) (k : ℕ) (d : A) → k < n → get_or (tabulate n 0 f) k d ≡ f k
  getD_table n f k d h = getD_tab n 0 f k d h ∙ ap f {x = 0 + k} {y = k} (omega arith)

  pub in_tab : {x : A} (n i : ℕ) (f : ℕ → A) → In x (tabulate n i f) → (k : ℕ) × (k < n) × (f (i + k) ≡ x)
  unfolding tabulate
  in_tab zero i f m = absurd (Memᴰ.not-nil m)
  in_tab {x} (suc n) i f m = elim (Memᴰ.cases_cons m) [
    | inl e ↦ (zero, zero-lt-suc n, ap f {x = i + 0} {y = i} (omega arith) ∙ sym e)
    | inr t ↦ let k = in_tab n (i + 1) f t in (suc k.0, suc-le-suc k.1, ap f {x = i + suc k.0} {y = i + 1 + k.0} (omega arith) ∙ k.2)
  ]

  pub tab_in : (n i : ℕ) (f : ℕ → A) (k : ℕ) → k < n → In (f (i + k)) (tabulate n i f)
  unfolding tabulate
  tab_in zero i f k h = absurd (not-suc-le-zero h)
  tab_in (suc n) i f zero h = Memᴰ.head (ap f {x = i + 0} {y = i} (omega arith))
  tab_in (suc n) i f (suc k) h = Memᴰ.tail (subst (λ (j : ℕ). In (f j) (tabulate n (i + 1) f)) {x = i + 1 + k} {y = i + suc k} (omega arith) (tab_in n (i + 1) f k (le_of_suc-le-suc h)))

module _ {A B : Type 0} where
  pub map_eq : (f g : A → B) (xs : List A) → ((x : A) → In x xs → f x ≡ g x) → map f xs ≡ map g xs
  map_eq f g [] h = refl
  map_eq f g (x ∷ xs) h = ap₂ (λ (y : B) (ys : List B). y ∷ ys) (h x here) (map_eq f g xs (λ y m. h y (Memᴰ.tail m)))

  pub get_d_map : (f : A → B) (xs : List A) (n : ℕ) (d : A) (e : B) → n < length xs → get_or (map f xs) n e ≡ f (get_or xs n d)
  get_d_map f [] n d e h = absurd (not-suc-le-zero h)
  get_d_map f (x ∷ xs) zero d e h = refl
  get_d_map f (x ∷ xs) (suc n) d e h = get_d_map f xs n d e (le_of_suc-le-suc h)

  pub map_take : (f : A → B) (n : ℕ) (xs : List A) → map f (take n xs) ≡ take n (map f xs)
  map_take f zero xs = refl
  map_take f (suc n) [] = refl
  map_take f (suc n) (x ∷ xs) = ap (λ (ys : List B). f x ∷ ys) (map_take f n xs)

  -- insertion behind a map that keeps the order
  pub map_insert : (f : A → B) (below : A → A → Bool) (above : B → B → Bool) (x : A) (ys : List A) → ((y : A) → In y ys → below x y ≡ above (f x) (f y)) → map f (insert below x ys) ≡ insert above (f x) (map f ys)
  unfolding insert
  map_insert f below above x [] e = refl
  map_insert f below above x (y ∷ ys) e =
      go (below x y) (map_insert f below above x ys (λ z m. e z (Memᴰ.tail m)))
      ∙ ap (λ (b : Bool). cond b (f x ∷ f y ∷ map f ys) (f y ∷ insert above (f x) (map f ys))) (e y here)
    where
      go : (b : Bool) → map f (insert below x ys) ≡ insert above (f x) (map f ys) → map f (cond b (x ∷ y ∷ ys) (y ∷ insert below x ys)) ≡ cond b (f x ∷ f y ∷ map f ys) (f y ∷ insert above (f x) (map f ys))
      go true ih = refl
      go false ih = ap (λ (zs : List B). f y ∷ zs) ih

  -- a filter behind a map is one before it
  pub keep_map : (f : A → B) (p : B → Bool) (xs : List A) → filter p (map f xs) ≡ map f (filter (λ x. p (f x)) xs)
  unfolding filter
  keep_map f p [] = refl
  keep_map f p (x ∷ xs) = go (p (f x)) refl (keep_map f p xs)
    where
      go : (b : Bool) → p (f x) ≡ b → filter p (map f xs) ≡ map f (filter (λ y. p (f y)) xs) → filter p (f x ∷ map f xs) ≡ map f (filter (λ y. p (f y)) (x ∷ xs))
      go true e ih = keep_yes p (f x) (map f xs) e ∙ ap (λ (ys : List B). f x ∷ ys) ih ∙ sym (ap (map f) (keep_yes (λ y. p (f y)) x xs e))
      go false e ih = keep_no p (f x) (map f xs) e ∙ ih ∙ sym (ap (map f) (keep_no (λ y. p (f y)) x xs e))

  pub in_collect : {y : B} (f : A → Option B) (xs : List A) → In y (filter_map f xs) → (x : A) × In x xs × (f x ≡ some y)
  unfolding filter_map cons_some
  in_collect f [] m = absurd (Memᴰ.not-nil m)
  in_collect {y} f (x ∷ xs) m = go (f x) refl (in_collect {y = y} f xs) m
    where
      go : (o : Option B) → f x ≡ o → (In y (filter_map f xs) → (u : A) × In u xs × (f u ≡ some y)) → In y (cons_some o (filter_map f xs)) → (u : A) × In u (x ∷ xs) × (f u ≡ some y)
      go none e ih m = let k = ih m in (k.0, Memᴰ.tail k.1, k.2)
      go (some z) e ih m = elim (Memᴰ.cases_cons m) [ inl p ↦ (x, here, e ∙ ap some (sym p)) | inr j ↦ let k = ih j in (k.0, Memᴰ.tail k.1, k.2) ]

-- ---- what holds of every entry, and what a fold keeps

abbrev pub Every : {A : Type 0} → (A → Type 0) → List A → Type 0
Every {A} Q xs = (x : A) → In x xs → Q x

module _ {A : Type 0} (Q : A → Type 0) where
  pub every_none : Every Q []
  every_none x m = absurd (Memᴰ.not-nil m)

  pub every_cons : {x : A} {xs : List A} → Q x → Every Q xs → Every Q (x ∷ xs)
  every_cons h k y m = elim (Memᴰ.cases_cons m) [ inl e ↦ subst Q (sym e) h | inr j ↦ k y j ]

  pub every_append : (xs : List A) {ys : List A} → Every Q xs → Every Q ys → Every Q (xs ++ ys)
  every_append xs h k y m = elim (Memᴰ.append_cases xs m) [ inl j ↦ h y j | inr j ↦ k y j ]

  pub every_map : {B : Type 0} (f : B → A) (xs : List B) → Every (λ (x : B). Q (f x)) xs → Every Q (map f xs)
  every_map f xs h y m = let k = Memᴰ.of_map f xs m in subst Q k.2 (h k.0 k.1)

  pub every_snoc : (xs : List A) (x : A) → Every Q xs → Q x → Every Q (xs ++ x ∷ [])
  every_snoc xs x h k = every_append xs h (every_cons k every_none)

  pub every_set : (xs : List A) (i : ℕ) (x : A) → Every Q xs → Q x → Every Q (set xs i x)
  every_set [] i x h k = h
  every_set (y ∷ ys) zero x h k = every_cons k (λ z m. h z (Memᴰ.tail m))
  every_set (y ∷ ys) (suc i) x h k = every_cons (h y here) (every_set ys i x (λ z m. h z (Memᴰ.tail m)) k)

  every_replicate : (n : ℕ) (d : A) → Q d → Every Q (replicate n d)
  every_replicate zero d h = every_none
  every_replicate (suc n) d h = every_cons h (every_replicate n d h)

  pub every_pad : (n : ℕ) (d : A) (xs : List A) → Q d → Every Q xs → Every Q (pad n d xs)
  unfolding pad
  every_pad n d xs h k = every_append xs k (every_replicate (n - length xs) d h)

pub fold_holds : {A B : Type 0} (Q : B → Type 0) (f : B → A → B) (b : B) (xs : List A) → Q b → ((x : A) → In x xs → (c : B) → Q c → Q (f c x)) → Q (fold f b xs)
unfolding fold
fold_holds Q f b [] h k = h
fold_holds Q f b (x ∷ xs) h k = fold_holds Q f (f b x) xs (k x here b h) (λ y m. k y (Memᴰ.tail m))

-- ---- lengths

module _ {A : Type 0} where
  pub length_front : (xs : List A) → length (init xs) ≤ length xs
  unfolding init
  length_front [] = zero-le
  length_front (x ∷ []) = zero-le
  length_front (x ∷ y ∷ ys) = let h = length_front (y ∷ ys) in omega arith

  pub length_pad : (n : ℕ) (d : A) (xs : List A) → length xs ≤ n → length (pad n d xs) ≡ n
  unfolding pad
  length_pad n d xs h = length-append xs (replicate (n - length xs) d) ∙ rw (length-replicate (n - length xs) d) (omega arith)

-- ---- the last one of a part

last_snoc : (xs : List ℕ) (x : ℕ) → last (xs ++ x ∷ []) ≡ some x
unfolding last
last_snoc [] x = refl
last_snoc (y ∷ []) x = refl
last_snoc (y ∷ z ∷ ys) x = last_snoc (z ∷ ys) x

pub last_part : (p end : ℕ) (ids : List ℕ) → p < end → end ≤ length ids → last (drop p (take end ids)) ≡ some (get_or ids (end - 1) 0)
last_part p end ids h k =
    let e : end ≡ suc (end - 1) = omega arith in
    let t : take end ids ≡ take (end - 1) ids ++ get_or ids (end - 1) 0 ∷ [] = ap (λ (n : ℕ). take n ids) e ∙ take-suc ids (end - 1) 0 (omega arith) in
    let d : drop p (take end ids) ≡ drop p (take (end - 1) ids) ++ get_or ids (end - 1) 0 ∷ [] =
    ap (drop p) t ∙ drop-append-le p (take (end - 1) ids) (get_or ids (end - 1) 0 ∷ []) (omega (arith, length-take-le (end - 1) ids (omega arith))) in
    ap last d ∙ last_snoc (drop p (take (end - 1) ids)) (get_or ids (end - 1) 0)
