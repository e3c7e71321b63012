-- Functions on lists that the definition uses, with Boolean tests.
use Rattle.std.specs.Prelude.{ℕ, zero, suc, ◌+◌, ◌-◌, Bool, true, false, ◌||◌, ◌&&◌, cond, length, replicate}
use Rattle.std.proofs.Math.Option.{Option, none, some}
use mathlib.Core.List.{List, [], ◌∷◌, ◌++◌, Memᴰ}

module _ {A : Type 0} where
  -- x stands in xs
  abbrev pub In : A → List A → Type 0
  In x xs = Memᴰ x xs

  -- x in front where the test holds
  unfoldable pub cons_if : Bool → A → List A → List A
  cons_if true x xs = x ∷ xs
  cons_if false x xs = xs

  unfoldable pub cons_some : Option A → List A → List A
  cons_some none xs = xs
  cons_some (some x) xs = x ∷ xs

  -- those that pass the test
  unfoldable pub filter : (A → Bool) → List A → List A
  filter p [] = []
  filter p (x ∷ xs) = cons_if (p x) x (filter p xs)

  unfoldable pub any : (A → Bool) → List A → Bool
  any p [] = false
  any p (x ∷ xs) = p x || any p xs

  unfoldable pub all : (A → Bool) → List A → Bool
  all p [] = true
  all p (x ∷ xs) = p x && all p xs

  -- the first that passes the test
  unfoldable pub find : (A → Bool) → List A → Option A
  find p [] = none
  find p (x ∷ xs) = cond (p x) (some x) (find p xs)

  unfoldable pub head : List A → Option A
  head [] = none
  head (x ∷ xs) = some x

  unfoldable pub last : List A → Option A
  last [] = none
  last (x ∷ []) = some x
  last (x ∷ y ∷ ys) = last (y ∷ ys)

  -- all but the last
  unfoldable pub init : List A → List A
  init [] = []
  init (x ∷ []) = []
  init (x ∷ y ∷ ys) = x ∷ init (y ∷ ys)

  -- x goes before the first y that is above it
  unfoldable pub insert : (A → A → Bool) → A → List A → List A
  insert below x [] = x ∷ []
  insert below x (y ∷ ys) = cond (below x y) (x ∷ y ∷ ys) (y ∷ insert below x ys)

  -- f i, f (i + 1), .. : n of them
  unfoldable pub tabulate : ℕ → ℕ → (ℕ → A) → List A
  tabulate zero i f = []
  tabulate (suc n) i f = f i ∷ tabulate n (i + 1) f

  -- xs, then the filler up to n entries
  unfoldable pub pad : ℕ → A → List A → List A
  pad n d xs = xs ++ replicate (n - length xs) d

  -- x, if the test holds
  unfoldable pub when : Bool → A → Option A
  when true x = some x
  when false x = none

module _ {A B : Type 0} where
  -- an Option taken apart
  unfoldable pub maybe : Option A → B → (A → B) → B
  maybe none b f = b
  maybe (some x) b f = f x

  -- the values that f gives, without the nones
  unfoldable pub filter_map : (A → Option B) → List A → List B
  filter_map f [] = []
  filter_map f (x ∷ xs) = cons_some (f x) (filter_map f xs)

  unfoldable pub fold : (B → A → B) → B → List A → B
  fold f b [] = b
  fold f b (x ∷ xs) = fold f (f b x) xs

-- Stable sort, by insertion from the left: equal ones keep their order.
unfoldable pub sort : {A : Type 0} → (A → A → Bool) → List A → List A
sort below xs = fold (λ ys x. insert below x ys) [] xs
