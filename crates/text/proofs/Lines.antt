-- What is written piece by piece, and a line by its parts.
use Prim.Native.Nat.{ℕ, ◌+◌, ◌<◌}
use mathlib.Core.Path.{◌≡◌, refl}
use mathlib.Core.List.{List, [], ◌∷◌, ◌++◌, map, append_assoc}
use lib.ListN.{length, take, get_or}
use lib.Seq.{take-length}
use Rattle.std.specs.List.{flat_map}
use Rattle.std.proofs.lemmas.List.{take_more, flat_map_more}
use Rattle.text.specs.declared.parts.Part.{Part}
use Rattle.text.specs.Text.{ascii, spaced}
use Rattle.text.specs.Buffer.{part_of}

-- the first i pieces, behind a front
abbrev pub so_far : {X : Type 0} → List ℕ → (X → List ℕ) → List X → ℕ → List ℕ
so_far front f xs i = front ++ flat_map f (take i xs)

pub next_piece : {X : Type 0} (front : List ℕ) (f : X → List ℕ) (xs : List X) (i n : ℕ) (d : X) → i < length xs → n ≡ i + 1 → so_far front f xs i ++ f (get_or xs i d) ≡ so_far front f xs n
next_piece front f xs i n d h e = rw (e, take_more xs i d h, ← flat_map_more f front (take i xs) (get_or xs i d))

pub all_pieces : {X : Type 0} (front : List ℕ) (f : X → List ℕ) (xs : List X) (i : ℕ) → i ≡ length xs → so_far front f xs i ≡ front ++ flat_map f xs
all_pieces front f xs i e = rw (e, take-length xs)

-- a space and a number
abbrev pub said : Part → List ℕ
said p = ascii " " ++ part_of p

spaced_said : (parts : List Part) → flat_map said parts ++ ascii "\n" ≡ spaced (map part_of parts)
unfolding spaced
spaced_said [] = refl
spaced_said (p ∷ ps) = rw (← spaced_said ps) (simp append_assoc)

pub whole_line : (name : List ℕ) (parts : List Part) (i : ℕ) → i ≡ length parts → so_far name said parts i ++ ascii "\n" ≡ name ++ spaced (map part_of parts)
whole_line name parts i all = rw (all_pieces name said parts i all, append_assoc name (flat_map said parts) (ascii "\n"), spaced_said parts)
