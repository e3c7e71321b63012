-- The refusals by their numbers and places: "When nothing is matched".
use Rattle.std.specs.Prelude.{ℕ}
use Rattle.model.specs.declared.error.DecodeError.{DecodeError}
use Rattle.model.specs.Kinds.{kind_number}
use Rattle.model.specs.declared.error.DecodeError.TheVariants.{TooShort, BadCounts, BadOffsets, BadField, BadOrder, NoRoom, UnsupportedType, NoPoints, NoCandidates, NoPath, HeapFull}

abbrev pub number_of : DecodeError → ℕ
number_of TooShort = 1
number_of BadCounts = 2
number_of BadOffsets = 3
number_of (BadField at) = 4
number_of BadOrder = 5
number_of NoRoom = 6
number_of (UnsupportedType kind) = 7
number_of NoPoints = 8
number_of (NoCandidates index) = 9
number_of (NoPath a b) = 10
number_of (HeapFull leg) = 11

-- A and B, 0 where unnamed
abbrev pub place_a : DecodeError → ℕ
place_a TooShort = 0
place_a BadCounts = 0
place_a BadOffsets = 0
place_a (BadField at) = at
place_a BadOrder = 0
place_a NoRoom = 0
place_a (UnsupportedType kind) = kind_number kind
place_a NoPoints = 0
place_a (NoCandidates index) = index
place_a (NoPath a b) = a
place_a (HeapFull leg) = leg

abbrev pub place_b : DecodeError → ℕ
place_b (NoPath a b) = b
place_b TooShort = 0
place_b BadCounts = 0
place_b BadOffsets = 0
place_b (BadField at) = 0
place_b BadOrder = 0
place_b NoRoom = 0
place_b (UnsupportedType kind) = 0
place_b NoPoints = 0
place_b (NoCandidates index) = 0
place_b (HeapFull leg) = 0
