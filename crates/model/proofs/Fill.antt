-- A loop that writes a list from the front: after i stores its first i entries are p, and behind them stands the old list.
use Prim.Native.Nat.{ℕ, suc, ◌+◌, ◌<◌}
use mathlib.Core.Path.{◌≡◌, sym, ap, ◌∙◌}
use mathlib.Core.List.{List, [], ◌∷◌, ◌++◌, map, map-append}
use native.Mathlib.Numerals.{add-one}
use lib.ListN.{length, get_or, set, take, drop, length-append, length-set}
use lib.Seq.{take-suc, drop-cons, append_snoc, set_at, take_at}

module _ {A : Type 0} where
  pub record Filling (p old new : List A) (i : ℕ) : Type 0 where
    pub is : new ≡ p ++ drop i old
    pub front : length p ≡ i
    pub size : length new ≡ length old

  module _ {p old new : List A} {i : ℕ} (f : Filling p old new i) where
    -- q is p with x behind it
    pub fill_step : {q : List A} (x : A) → i < length old → p ++ x ∷ [] ≡ q → Filling q old (set new i x) (i + 1)
    fill_step {q} x h e = record {
      is =
          ap (λ (l : List A). set l i x) (f.is ∙ ap (λ (l : List A). p ++ l) (drop-cons old i x h))
          ∙ set_at p (get_or old i x) (drop (suc i) old) x i f.front
          ∙ sym (append_snoc p x (drop (suc i) old))
          ∙ rw (e, add-one i);
      front = ap length (sym e) ∙ length-append p (x ∷ []) ∙ ap (λ (n : ℕ). n + 1) f.front;
      size = length-set new i x ∙ f.size;
    }

    -- the written part
    pub fill_front : take i new ≡ p
    fill_front = ap (take i) f.is ∙ take_at p (drop i old) i f.front

-- ---- what g gives of a list

take_more : {A : Type 0} (xs : List A) (i : ℕ) (d : A) → i < length xs → take i xs ++ get_or xs i d ∷ [] ≡ take (i + 1) xs
take_more xs i d h = sym (rw (add-one i) (take-suc xs i d h))

pub map_step : {A B : Type 0} (g : B → A) (xs : List B) (d : B) {old new : List A} {i : ℕ} {x : A} → Filling (map g (take i xs)) old new i → i < length old → i < length xs → x ≡ g (get_or xs i d) → Filling (map g (take (i + 1) xs)) old (set new i x) (i + 1)
map_step g xs d {i} {x} f h k e = fill_step f x h (rw e (sym (map-append g (take i xs) (get_or xs i d ∷ [])) ∙ ap (map g) (take_more xs i d k)))
