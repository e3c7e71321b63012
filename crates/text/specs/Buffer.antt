-- What is written into a lent buffer.
use Rattle.std.specs.Prelude.{ℕ, ◌+◌, ◌-◌, ◌^◌, ◌≤◌, ◌≡◌, cond, List, ◌++◌, leb, min, length, take, drop, Option, Some, None}
use Rattle.text.specs.Text.{decimal, bits_of}
use Rattle.text.specs.declared.parts.Part.{Part}
use Rattle.text.specs.declared.parts.Part.TheVariants.{Decimal, Bits}
use Rattle.text.specs.declared.parts.Writer.{Writer}

-- a number of a line
abbrev pub part_of : Part → List ℕ
part_of (Decimal x) = decimal x
part_of (Bits x) = bits_of x

-- the bytes stand from `before.at` on and nothing else is changed
pub record BytesAt (bytes : List ℕ) (before after : Writer) : Type 0 where
  pub end_is : after.at ≡ before.at + length bytes
  pub is : after.out.now ≡ take before.at before.out.now ++ bytes ++ drop (before.at + length bytes) before.out.now

-- `bytes` are put at the writer's place, if there is room for them, and counted in any case
pub record Put (bytes : List ℕ) (before after : Writer) : Type 0 where
  pub same_reference : after.out.ghost_name ≡ before.out.ghost_name
  pub size : length after.out.now ≡ length before.out.now
  pub counted : after.at ≡ min (before.at + length bytes) (2 ^ 64 - 1)
  pub stands : before.at + length bytes ≤ length before.out.now → BytesAt bytes before after

-- the same at a buffer's front, with how many bytes there are
pub record PutFirst (bytes before after : List ℕ) (size : ℕ) : Type 0 where
  pub counted : size ≡ min (length bytes) (2 ^ 64 - 1)
  pub stands : length bytes ≤ length before → after ≡ bytes ++ drop (length bytes) before

-- what writing a text answers, and the buffer afterwards: the text at its front, or untouched where the text is longer
abbrev pub told : List ℕ → List ℕ → Option ℕ
told text before = cond (leb (length text) (length before)) (Some (length text)) None

abbrev pub filled : List ℕ → List ℕ → List ℕ
filled text before = cond (leb (length text) (length before)) (text ++ drop (length text) before) before
