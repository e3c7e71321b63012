-- A text with room is written; the text of 256 roads always has room.
use Prim.Native.Nat.{ℕ, ◌≤◌}
use native.Mathlib.Omega.{arith}
use mathlib.Core.Path.{◌≡◌}
use mathlib.Core.List.{List}
use lib.ListN.{length}
use borrow.Author.Tests.{le-leb}
use Rattle.std.specs.Prelude.{Option, IsSome}
use Rattle.model.specs.Call.{Decoded}
use Rattle.text.specs.Text.{text_of}
use Rattle.text.specs.Buffer.{told}
use Rattle.text.proofs.Lengths.{text_theorem}

pub is_told : (t before : List ℕ) → length t ≤ length before → (o : Option ℕ) → o ≡ told t before → IsSome o
is_told t before room o e = rw (e, le-leb (length t) (length before) room)

pub room_for_text : (d : Decoded) (n : ℕ) → length d.lists.ids ≡ 256 → 11264 ≤ n → length (text_of d) ≤ n
room_for_text d n e h = omega (arith, text_theorem d.answer d.lists)
