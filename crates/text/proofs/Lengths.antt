-- The lengths of lines, and of a whole text.
use Prim.Native.Nat.{ℕ, zero, suc, ◌+◌, ◌*◌, ◌≤◌}
use native.Mathlib.Omega.{arith}
use mathlib.Core.Path.{◌≡◌, refl}
use mathlib.Core.List.{List, [], ◌∷◌}
use lib.ListN.{length, length-append}
use lib.Ieee.{Float}
use Rattle.model.specs.Call.{Match, refused, matched}
use Rattle.text.specs.Text.{ascii, spaced, line, road_line, road_lines, path_line, last_lines, refusal_line, text}
use Rattle.text.specs.Theorem.{TextTheorem}
use Rattle.text.proofs.Digits.{decimal_length, bits_length}

-- ---- what follows a line's name

none : length (spaced []) ≡ 1
unfolding spaced ascii
none = refl

more : (p : List ℕ) (ps : List (List ℕ)) → length (spaced (p ∷ ps)) ≡ 1 + length p + length (spaced ps)
unfolding spaced ascii
more p ps = omega (arith, length-append p (spaced ps))

-- ---- lines

road_length : (id : ℕ) (metres : Float) → length (road_line id metres) ≤ 43
unfolding line ascii
road_length id metres = omega (arith, more, none, decimal_length, bits_length)

pub path_length : (m : Match) → length (path_line m) ≤ 26
unfolding path_line line ascii
path_length m = omega (arith, more, none, decimal_length)

pub last_length : (m : Match) → length (last_lines m) ≤ 148
unfolding last_lines line ascii
last_length m = simp length-append (omega (arith, more, none, decimal_length, bits_length))

pub refusal_length : (number a b : ℕ) → length (refusal_line number a b) ≤ 71
unfolding refusal_line line ascii
refusal_length number a b = omega (arith, more, none, decimal_length)

roads_length : (n : ℕ) (ids : List ℕ) (lengths : List Float) → length (road_lines n ids lengths) ≤ 43 * length ids
unfolding road_lines
roads_length zero ids lengths = omega arith
roads_length (suc n) [] lengths = omega arith
roads_length (suc n) (id ∷ ids) [] = omega arith
roads_length (suc n) (id ∷ ids) (x ∷ xs) = simp length-append (omega (arith, road_length id x, roads_length n ids xs))

pub text_theorem : TextTheorem
unfolding text
text_theorem (refused number a b) l = omega (arith, refusal_length number a b)
text_theorem (matched m) l = simp length-append (omega (arith, path_length m, last_length m, roads_length m.count l.ids l.lengths))
