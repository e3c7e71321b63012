-- A leg's roads behind a path: a first one that is the path's last is not written again.
use Rattle.std.proofs.Common.{◌≡◌, ℕ, zero, suc, ◌+◌, ◌-◌, ◌≤◌, ◌<◌, Bool, true, false, ◌&&◌, eqb, List, [], ◌∷◌, ◌++◌, length, get_or, take, drop, Option, Some, None, refl, sym, ap, ◌∙◌, arith, append_assoc, length-append, length-drop, length-take-le, slice_get}
use Rattle.std.proofs.lemmas.List.{take_at, drop_at, take_more}
use Rattle.std.proofs.lemmas.Option.{slice_get-get_or}
use Rattle.std.specs.Option.{is_some, option_eq}
use Rattle.std.proofs.Math.Option.{some, none-ne-some, some-ne-none, some-injective}
use Rattle.std.proofs.Math.Option as definition
use Rattle.std.proofs.Math.Seq.{take-length, append_snoc}
use Rattle.std.proofs.lemmas.Bool.{eq-eqb, eqb-true}
use Rattle.model.specs.Lists.{head, last, maybe}
use Rattle.model.proofs.Members.{last_part}
use Rattle.full_path.specs.Left.{number_as, unwritten, Appended}

-- ---- the last road and the first one

last_is : (xs : List ℕ) → 0 < length xs → last xs ≡ some (get_or xs (length xs - 1) 0)
last_is xs h = rw take-length at (last_part 0 (length xs) xs h (omega arith))

pub last_as : (xs : List ℕ) → number_as (slice_get xs (length xs - 1)) ≡ last xs
unfolding last
last_as [] = refl
last_as (x ∷ xs) = ap number_as (slice_get-get_or (x ∷ xs) (length (x ∷ xs) - 1) 0 (omega arith)) ∙ sym (last_is (x ∷ xs) (omega arith))

pub some_before : (ids : List ℕ) (n k : ℕ) → last (take n ids) ≡ some k → 0 < n
unfolding last
some_before ids zero k e = absurd (none-ne-some k e)
some_before ids (suc n) k e = omega arith

-- whether the path's last road o and the leg's first one p are one
abbrev pub one_road : Option ℕ → Option ℕ → Bool
one_road o p = is_some o && option_eq eqb o p

pub skipped : (o p : Option ℕ) (l : definition.Option ℕ) (ns : List ℕ) → number_as o ≡ l → number_as p ≡ head ns → one_road o p ≡ true → (k : ℕ) × (l ≡ some k) × (ns ≡ k ∷ unwritten l ns)
unfolding head unwritten maybe
skipped None p l ns before first same = absurd (cc)
skipped (Some k) None l ns before first same = absurd (cc)
skipped (Some k) (Some j) l [] before first same = absurd (some-ne-none j first)
skipped (Some k) (Some j) l (x ∷ xs) before first same =
    let one : k ≡ x = eqb-true k j same ∙ some-injective j x first in
    (k, sym before, rw (← before, eq-eqb k x one, one))

pub kept : (o p : Option ℕ) (l : definition.Option ℕ) (ns : List ℕ) → number_as o ≡ l → number_as p ≡ head ns → one_road o p ≡ false → ns ≡ unwritten l ns
unfolding head unwritten maybe
kept o p l [] before first other = refl
kept None p l (x ∷ xs) before first other = rw (← before)
kept (Some k) None l (x ∷ xs) before first other = absurd (none-ne-some x first)
kept (Some k) (Some j) l (x ∷ xs) before first other = rw (← before, ← some-injective j x first, other)

-- ---- in the list

module _ (ids ns ids₁ : List ℕ) (n from : ℕ) (room : n + length ns ≤ length ids) (is : ids₁ ≡ (take from ids ++ ns) ++ drop (length (take from ids ++ ns)) ids) (near : from ≤ n) where
  front : length (take from ids) ≡ from
  front = length-take-le from ids (omega arith)

  size : length ids₁ ≡ length ids
  size = ap length is ∙ simp (length-append, length-drop) (omega (arith, front))

  put_path : take (from + length ns) ids₁ ≡ take from ids ++ ns
  put_path = rw is (take_at (take from ids ++ ns) _ (from + length ns) (omega (arith, front, length-append (take from ids) ns)))

  put_roads : take (length ns) (drop from ids₁) ≡ ns
  put_roads = rw (is, append_assoc) (rw (drop_at (take from ids) _ from front) (take_at ns _ (length ns) refl))

  pub appended_here : from ≡ n → ns ≡ unwritten (last (take n ids)) ns → Appended ids n ns ids₁ from
  appended_here here all = record {
    size = size;
    near = (omega arith, omega arith);
    behind = omega arith;
    path = put_path ∙ rw here (ap (λ (xs : List ℕ). take n ids ++ xs) all);
    roads = put_roads;
  }

  pub appended_over : n ≡ from + 1 → (k : ℕ) → last (take n ids) ≡ some k → ns ≡ k ∷ unwritten (last (take n ids)) ns → Appended ids n ns ids₁ from
  appended_over over k last_one all =
      let left = unwritten (last (take n ids)) ns in
      let at : get_or ids from 0 ≡ k = some-injective _ _ (sym (ap (λ m. some (get_or ids m 0)) {x = n - 1} {y = from} (omega arith)) ∙ sym (last_part 0 n ids (omega arith) (omega arith)) ∙ last_one) in
      let longer : take n ids ≡ take from ids ++ k ∷ [] = rw (over, ← at) (take_more ids from 0 (omega arith)) in
      record {
        size = size;
        near = (omega arith, omega arith);
        behind = omega (arith, ap length all);
        path = put_path ∙ ap (λ (xs : List ℕ). take from ids ++ xs) all ∙ sym (append_snoc (take from ids) k left) ∙ ap (λ (xs : List ℕ). xs ++ left) (sym longer);
        roads = put_roads;
      }
