-- What a case expects of the two answer lists after the call.
use Rattle.std.specs.Prelude.{ℕ, ◌+◌, ◌*◌, ◌<◌, ◌≡◌, false, cond, List, ltb, Float, length, get_or}
use Rattle.std.specs.Float.{nan, binary64}
use Rattle.std.specs.Float.Ieee.{is_nan, to_bits}
use Rattle.model.specs.Bytes.{u64_at}
use Rattle.model.specs.Numbers.{bits}
use Rattle.replay.specs.declared.expected.Expected.{Expected}

-- behind the path: what stood there before the call, or zero
unfoldable pub behind : Expected → ℕ → ℕ
behind e old = cond e.untouched old 0

-- word 0 or 1 of road i, the id or the length, or what stands behind the path
unfoldable pub word_at : Expected → ℕ → ℕ → ℕ → ℕ
word_at e i word rest = cond (ltb i e.roads) (u64_at e.answer.now (56 + 16 * i + 8 * word)) rest

-- x is no NaN and has these bits
pub record HasBits (x : Float) (n : ℕ) : Type 0 where
  pub number : is_nan x ≡ false
  pub is : to_bits binary64 x ≡ n

-- every entry of both lists is as expected
abbrev pub IdsAgree : List ℕ → Expected → Type 0
IdsAgree ids e = (i : ℕ) → i < length ids → get_or ids i 0 ≡ word_at e i 0 (behind e 7)

abbrev pub LengthsAgree : List Float → Expected → Type 0
LengthsAgree lengths e = (i : ℕ) → i < length lengths → HasBits (get_or lengths i nan) (word_at e i 1 (behind e (to_bits binary64 (bits 0x401C_0000_0000_0000))))

pub record ListsAgree (ids : List ℕ) (lengths : List Float) (e : Expected) : Type 0 where
  pub ids_agree : IdsAgree ids e
  pub lengths_agree : LengthsAgree lengths e
