-- How long a text can be. proofs/Lengths.antt has the proof.
use Rattle.std.specs.Prelude.{◌+◌, ◌*◌, ◌≤◌, length}
use Rattle.model.specs.Call.{Lists, Answer}
use Rattle.text.specs.Text.{text}

-- at most 43 bytes for each road that the list of ids can hold, and 174 for all other lines
abbrev pub TextTheorem : Type 0
TextTheorem = (a : Answer) (l : Lists) → length (text a l) ≤ 174 + 43 * length l.ids
