-- Texts of the marked set's S1 and S2, of a path of three roads with unlike ends, and the words of the scope. proofs/ExamplesProof.antt has the proofs, by computing.
use Rattle.std.specs.Prelude.{ℕ, ◌≡◌, List, [], ◌∷◌}
use Rattle.std.specs.Float.{nan}
use Rattle.model.specs.Numbers.{infinity}
use Rattle.model.specs.Call.{decode, refused}
use Rattle.model.specs.Build.{point, row}
use Rattle.model.specs.Marked.{lent, two_points, last_point}
use Rattle.model.specs.Edges.{three_roads, to_node}
use Rattle.text.specs.Text.{ascii, bits_of, text_of, large}

-- from 25 of the first road to 40 of the last
abbrev pub over_three_unlike : List ℕ
over_three_unlike =
    three_roads 1 (18446744073709551615 ∷ 0 ∷ 702 ∷ []) (point 200 3 3 3 1 ∷ last_point 1 ∷ []) (row 0 0 90 25 100 ∷ row 2 0 90 40 100 ∷ []) (to_node 2 ∷ [])

pub record Examples : Type 0 where
  pub s1 : text_of (decode (two_points 25 75) lent) ≡ ascii "path 1\nroad 700 4059000000000000\nlength 4049000000000000\nstart 4039000000000000 3fd0000000000000\nend 4039000000000000 3fd0000000000000\nprimary 700 4049000000000000\n"
  pub s2 : text_of (decode (two_points 75 25) lent) ≡ ascii "refused 10 0 1\n"
  pub three : text_of (decode over_three_unlike lent) ≡ ascii "path 3\nroad 18446744073709551615 4059000000000000\nroad 0 4059000000000000\nroad 702 4059000000000000\nlength 406ae00000000000\nstart 4039000000000000 3fd0000000000000\nend 404e000000000000 3fe3333333333333\nprimary 0 4059000000000000\n"
  pub place : text_of (record { answer = refused 4 49151 0; lists = record { ids = []; lengths = [] } }) ≡ ascii "refused 4 49151 0\n"
  pub too_long : large ≡ ascii "large\n"
  pub infinite : bits_of infinity ≡ ascii "7ff0000000000000"
  pub no_number : bits_of nan ≡ ascii "not a number"
