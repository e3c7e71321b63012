use native.Mathlib.Omega.{arith}
use mathlib.Core.Path.{◌≡◌, ◌∙◌}
use mathlib.Core.Bool.{false}
use lib.Ieee.{is_nan}
use Rattle.text.specs.Text.{ascii, bits_of}
use Rattle.text.proofs.Digits.{fewest_decimal, hex_is}
use Rattle.text.proofs.Putting.{then}
use Rattle.text.proofs.parts.Writer.part.Goals as goal

pub returns-in-Decimal : goal.returns-in-Decimal
unfolding ascii
returns-in-Decimal c =
    let digits = c.decimal-n.ensures.digits ∙ fewest_decimal _ 20 c.in-Decimal.x c.decimal-n.ensures.len (omega arith) in
    rw c.in-Decimal.is (then c.put.ensures (rw digits at c.put-in-Decimal.ensures))

pub returns-in-Bits : goal.returns-in-Bits
unfolding ascii bits_of
returns-in-Bits c = rw (c.in-Bits.is, ← c.is_nan.ensures.value, c.if-is_nan.true) (then c.put.ensures c.put-in-Bits.ensures)

pub returns-in-Bits-2 : goal.returns-in-Bits-2
unfolding ascii bits_of
returns-in-Bits-2 c =
    let number : is_nan c.in-Bits-2.x ≡ false = cc in
    let digits = hex_is _ _ _ (omega arith) c.hex-n.ensures.digits in
    rw (c.in-Bits-2.is, number) (then c.put.ensures (rw digits at c.put-in-Bits-2.ensures))
