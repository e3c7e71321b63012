-- "Marked set, and the list program": the text of an answer and both answer lists, in ASCII, a line for each part.
use Rattle.std.specs.Prelude.{ℕ, zero, suc, ◌/◌, ◌%◌, cond, List, [], ◌∷◌, ◌++◌, ltb, Float, is_nan, to_bits}
use Prim.Native.Char.{code}
use Prim.Native.String.{String}
use Prim.Native.String as string
use Rattle.std.specs.Float.{binary64}
use Rattle.io.specs.Digits.{hex_digit_ascii, last_digits}
use Rattle.model.specs.Call.{Lists, Match, Answer, refused, matched, Decoded}

-- the bytes of a word
unfoldable pub ascii : String → List ℕ
ascii string.[] = []
ascii (string.◌∷◌ x xs) = code x ∷ ascii xs

-- the last k decimal digits of n, without zeros in front
unfoldable pub decimal_within : ℕ → ℕ → List ℕ
decimal_within zero n = []
decimal_within (suc k) n = cond (ltb n 10) [] (decimal_within k (n / 10)) ++ hex_digit_ascii (n % 10) ∷ []

-- a u64 has at most twenty digits
abbrev pub decimal : ℕ → List ℕ
decimal n = decimal_within 20 n

-- The sixteen hexadecimal digits of x's bits. A NaN's bits are unknown, and the decoder answers none (NumberTheorem).
unfoldable pub bits_of : Float → List ℕ
bits_of x = cond (is_nan x) (ascii "not a number") (last_digits 16 16 (to_bits binary64 x))

-- what follows a line's name: a space before each part, and a line feed
unfoldable pub spaced : List (List ℕ) → List ℕ
spaced [] = ascii "\n"
spaced (part ∷ parts) = ascii " " ++ part ++ spaced parts

unfoldable pub line : String → List (List ℕ) → List ℕ
line name parts = ascii name ++ spaced parts

-- a road of the path: id and length
abbrev pub road_line : ℕ → Float → List ℕ
road_line id metres = line "road" (decimal id ∷ bits_of metres ∷ [])

-- The first n roads, as far as both lists go. The decoder's lists hold the whole path (RoomTheorem).
unfoldable pub road_lines : ℕ → List ℕ → List Float → List ℕ
road_lines zero ids lengths = []
road_lines (suc n) [] lengths = []
road_lines (suc n) (id ∷ ids) [] = []
road_lines (suc n) (id ∷ ids) (metres ∷ lengths) = road_line id metres ++ road_lines n ids lengths

-- the count of the path's roads
unfoldable pub path_line : Match → List ℕ
path_line m = line "path" (decimal m.count ∷ [])

-- what stands after the roads: leg sum; offset and its fraction, both ends; the primary road's id and coverage
unfoldable pub last_lines : Match → List ℕ
last_lines m =
    line "length" (bits_of m.length_m ∷ [])
    ++ line "start" (bits_of m.start_offset ∷ bits_of m.start_fraction ∷ [])
    ++ line "end" (bits_of m.end_offset ∷ bits_of m.end_fraction ∷ [])
    ++ line "primary" (decimal m.primary ∷ bits_of m.coverage ∷ [])

-- number, A, B
unfoldable pub refusal_line : ℕ → ℕ → ℕ → List ℕ
refusal_line number a b = line "refused" (decimal number ∷ decimal a ∷ decimal b ∷ [])

-- the text of an answer
unfoldable pub text : Answer → Lists → List ℕ
text (refused number a b) l = refusal_line number a b
text (matched m) l = path_line m ++ road_lines m.count l.ids l.lengths ++ last_lines m

abbrev pub text_of : Decoded → List ℕ
text_of d = text d.answer d.lists

-- the text of a sheet that is too long for the program
unfoldable pub large : List ℕ
large = line "large" []
