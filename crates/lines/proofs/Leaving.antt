-- What a leg leaves of its route: where its middle stands in the list.
use Rattle.std.proofs.Common.{◌≡◌, ℕ, ◌+◌, ◌-◌, List, ◌++◌, length, take, drop, Option, Some, None, refl, sym, arith, append_assoc, take-append-drop}
use Rattle.std.proofs.lemmas.List.{take_at, drop_at, drop-drop}
use Rattle.std.specs.Option.{is_some}
use mir.Val.{bool_byte}
use Rattle.rules.specs.declared.PathResult.{PathResult}
use Rattle.rules.specs.declared.TerminalEdge.{TerminalEdge}
use Rattle.full_path.specs.Left.{terminal_numbers, numbers_of, Appended}

-- 1 where there is one
pub terminal_count : (p : Option TerminalEdge) → bool_byte (is_some p) ≡ length (terminal_numbers p)
terminal_count None = refl
terminal_count (Some x) = refl

module _ (r : PathResult) (ks ids : List ℕ) (n : ℕ) (ids₁ : List ℕ) (from : ℕ) (put : Appended ids n (numbers_of r ks) ids₁ from) where
  abbrev a : List ℕ
  a = terminal_numbers r.head

  abbrev d : List ℕ
  d = terminal_numbers r.tail

  module _ (first : ℕ) (at : first ≡ length a) (k : ℕ) (size : length ks ≡ k) where
    pub middle_there : take (from + first + k - (from + first)) (drop (from + first) ids₁) ≡ ks
    middle_there =
        let rest = drop (length (numbers_of r ks)) (drop from ids₁) in
        let all : drop from ids₁ ≡ (a ++ ks ++ d) ++ rest = rw put.roads at (sym (take-append-drop (length (numbers_of r ks)) (drop from ids₁))) in
        let apart : (a ++ ks ++ d) ++ rest ≡ a ++ (ks ++ (d ++ rest)) = simp append_assoc in
        let count : from + first + k - (from + first) ≡ length ks = omega arith in
        rw (count, at, ← drop-drop (length a) from ids₁, all, apart, drop_at a (ks ++ (d ++ rest)) (length a) refl) (take_at ks (d ++ rest) (length ks) refl)
