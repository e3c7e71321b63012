-- The examples, by computing.
use mathlib.Core.Path.{refl}
use lib.Ieee.{is_nan}
use Rattle.model.proofs.Computes.{computes}
use Rattle.text.specs.Text.{ascii, decimal_within, bits_of, spaced, line, road_lines, path_line, last_lines, refusal_line, text, large}
use Rattle.text.specs.Examples.{Examples}

pub examples : Examples
unfolding computes is_nan ascii decimal_within bits_of spaced line road_lines path_line last_lines refusal_line text large
examples = record {
  s1 = refl;
  s2 = refl;
  three = refl;
  place = refl;
  too_long = refl;
  infinite = refl;
  no_number = refl;
}
