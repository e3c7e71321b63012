-- A matched full path has a road: a coverage of a leg's path is one of its roads, and no leg takes away what is written.
use Prim.Native.Nat.{ℕ, zero, suc, ◌+◌, ◌<◌}
use mathlib.Core.Path.{◌≡◌}
use mathlib.Core.List.{List, [], ◌∷◌}
use native.Mathlib.Nat.{zero-lt-suc}
use native.Mathlib.Omega.{arith}
use lib.ListN.{length, length-map}
use Rattle.model.specs.declared.Road.{Road}
use Rattle.model.specs.Lists.{last, maybe}
use Rattle.model.specs.Sheet.{Sheet}
use Rattle.model.specs.View.{view}
use Rattle.model.specs.Search.{bounded_astar}
use Rattle.model.specs.Legs.{EdgeCoverage, PathResult}
use Rattle.model.specs.Decode.{FullPath, roads_of, append, extended, path_of_leg, outcome, matched}
use Rattle.bounds.specs.Formed.{Formed}
use Rattle.bounds.proofs.EndBound.{in_place}
use Rattle.bounds.proofs.Lines.{Kept}
use Rattle.bounds.proofs.PathLaws.{InSheet, sheet_roads, path_law}
use Rattle.bounds.proofs.RoomProof.{covers_length}

append_some : (path rs : List Road) → 0 < length path + length rs → 0 < length (append path rs)
unfolding append maybe last
append_some path [] h = omega arith
append_some [] (r ∷ rs) h = zero-lt-suc _
append_some (x ∷ xs) (r ∷ rs) h = zero-lt-suc _

-- where there is a coverage there is a road
abbrev Paved : ℕ → FullPath → Type 0
Paved n k = 0 < length k.coverages → 0 < length k.roads

-- c for a, where c is not 0 unless a is
some_sum : (a b c : ℕ) → (0 < a → 0 < c) → 0 < a + b → 0 < c + b
some_sum zero b c h k = omega arith
some_sum (suc a) b c h k = omega (arith, h (zero-lt-suc a))

abbrev Any : PathResult → Type 0
Any r = Unit {0}

legs_paved : Kept Any Paved
unfolding extended path_of_leg
legs_paved = record {
  begins = λ h. h;
  extends = λ i k leg r h f g.
      append_some k.roads (roads_of r) (omega (
        arith,
        length-map r.coverages (λ (c : EdgeCoverage). c.road),
        some_sum (length k.coverages) (length r.coverages) (length k.roads) h (omega (arith, g, covers_length k.coverages r.coverages)),
      ));
  same_edge = λ leg r f g. omega (arith, g, length-map r.coverages (λ (c : EdgeCoverage). c.road));
}

pub some_road : (t : Sheet) → Formed t → (slots : ℕ) (k : FullPath) (c : EdgeCoverage) → outcome (view t) (bounded_astar slots) ≡ matched k c → 0 < length k.roads
some_road t wf slots k c e =
    let m = path_law t wf (InSheet t) (sheet_roads t wf) slots Any record { same_edge = λ b p x y h. tt; over = λ p x y cost middle f. tt } Paved legs_paved k c e in
    m.holds (omega (arith, (in_place c m.primary).1))
