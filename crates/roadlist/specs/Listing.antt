-- What the list program prints of the bytes it reads.
use Rattle.std.specs.Prelude.{ℕ, cond, List, ltb, length, replicate}
use Rattle.model.specs.Numbers.{f0}
use Rattle.model.specs.Call.{Lent, decode}
use Rattle.text.specs.Text.{text_of, large}

-- what it lends
abbrev pub areas : Lent
areas = record { node = 64; heap = 128; coverage = 256; lists = record { ids = replicate 256 0; lengths = replicate 256 f0 } }

-- the text of the decoded sheet, if it has at most 48 KiB
unfoldable pub listing : List ℕ → List ℕ
listing sheet = cond (ltb 49152 (length sheet)) large (text_of (decode sheet areas))
