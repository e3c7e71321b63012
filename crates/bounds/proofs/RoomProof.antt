-- A leg gives at most N + 1 coverages: N - 1 roads of a search and two terminal ones. So a full path has at most P (N + 1), and the ends add at most 4 N roads.
use Prim.Native.Nat.{ℕ, suc, ◌+◌, ◌*◌, ◌≤◌, zero-le}
use mathlib.Core.Bool.{Bool, true, false, cond}
use mathlib.Core.Option.{Option, none, some}
use mathlib.Core.List.{List, [], ◌∷◌, ◌++◌, map}
use native.Mathlib.Nat.{le_refl, le_trans, mul-le-mul_right}
use native.Mathlib.Omega.{arith}
use lib.ListN.{length, length-append, length-map}
use lib.Ieee.{Float}
use Rattle.model.specs.declared.Road.{Road}
use Rattle.model.specs.Lists.{last, maybe, fold}
use Rattle.model.specs.Sheet.{Sheet, parsed}
use Rattle.model.specs.Legs.{EdgeCoverage, PathResult, Pair, same_edge_path, start_part, end_part, path_cost, stays, terminal, whole, path_over}
use Rattle.model.specs.Decode.{FullPath, roads_of, same_number, append, cover, extended, path_of_leg}
use Rattle.model.specs.Ends.{finalize_path}
use Rattle.model.proofs.Members.{either}
use Rattle.bounds.specs.Formed.{Formed}
use Rattle.bounds.specs.Theorems.{RoomBound, RoomTheorem}
use Rattle.bounds.proofs.FormedProof.{formed}
use Rattle.bounds.proofs.EndBound.{ends_fit}
use Rattle.bounds.proofs.Lines.{Kept, Met}
use Rattle.bounds.proofs.PathLaws.{InSheet, sheet_roads, RouteLaw, path_law}

-- ---- a leg's roads and coverages behind those already there

append_length : (path rs : List Road) → length (append path rs) ≤ length path + length rs
unfolding append maybe
append_length path [] = omega arith
append_length path (r ∷ rs) = go (last path)
  where
    behind : (xs : List Road) → length xs ≤ length (r ∷ rs) → length (path ++ xs) ≤ length path + length (r ∷ rs)
    behind xs h = rw (length-append path xs) (omega arith)

    go : (o : Option Road) → length (path ++ maybe o (r ∷ rs) (λ x. cond (same_number x r) rs (r ∷ rs))) ≤ length path + length (r ∷ rs)
    go none = behind (r ∷ rs) (le_refl _)
    go (some x) = behind (cond (same_number x r) rs (r ∷ rs)) (either (λ (xs : List Road). length xs ≤ length (r ∷ rs)) (same_number x r) (omega arith) (le_refl _))

cover_length : (xs : List EdgeCoverage) (c : EdgeCoverage) → length (cover xs c) ≤ suc (length xs)
unfolding cover
cover_length [] c = le_refl 1
cover_length (x ∷ xs) c = let h = cover_length xs c in either (λ (ys : List EdgeCoverage). length ys ≤ suc (length (x ∷ xs))) (same_number x.road c.road) (omega arith) (omega arith)

pub covers_length : (xs cs : List EdgeCoverage) → length (fold cover xs cs) ≤ length xs + length cs
unfolding fold
covers_length xs [] = omega arith
covers_length xs (c ∷ cs) = let h = covers_length (cover xs c) cs in let k = cover_length xs c in omega arith

terminal_length : (b : Bool) (r : Road) (part : Float) → length (terminal b r part) ≤ 1
unfolding terminal
terminal_length true r part = le_refl 1
terminal_length false r part = zero-le

over_length : (p : Pair) (total : Float) (middle : List Road) → length (path_over p total middle).coverages ≤ length middle + 2
unfolding path_over
over_length p total middle =
    let a = terminal (stays (start_part p) total) p.start.road (start_part p) in
    let b = terminal (stays (end_part p) total) p.end.road (end_part p) in
    let h : length a ≤ 1 = terminal_length (stays (start_part p) total) p.start.road (start_part p) in
    let k : length b ≤ 1 = terminal_length (stays (end_part p) total) p.end.road (end_part p) in
    omega (arith, length-append (a ++ map whole middle) b, length-append a (map whole middle), length-map middle whole)

-- ---- legs and full paths

abbrev Fits : Sheet → PathResult → Type 0
Fits t r = length r.coverages ≤ t.nodes + 1

-- The full path k after n legs.
record Room (t : Sheet) (n : ℕ) (k : FullPath) : Type 0 where
  roads : length k.roads ≤ n * (t.nodes + 1)
  coverages : length k.coverages ≤ n * (t.nodes + 1)

-- a candidate's road ends at a node, so there is one
routes_fit : (t : Sheet) → Formed t → RouteLaw t (InSheet t) (Fits t)
unfolding same_edge_path
routes_fit t wf = record {
  same_edge = λ b p x y h. omega arith;
  over = λ p x y cost middle f. omega (arith, (wf.roads p.start.road x.road).target, over_length p (path_cost p cost) middle, f.few);
}

legs_fit : (t : Sheet) → Kept (Fits t) (Room t)
unfolding extended path_of_leg
legs_fit t = record {
  begins = record { roads = zero-le; coverages = zero-le };
  extends = λ i k leg r h f. record {
    roads = omega (arith, h.roads, append_length k.roads (roads_of r), length-map r.coverages (λ (c : EdgeCoverage). c.road));
    coverages = omega (arith, h.coverages, covers_length k.coverages r.coverages);
  };
  same_edge = λ leg r f. record { roads = omega (arith, length-map r.coverages (λ (c : EdgeCoverage). c.road)); coverages = omega arith };
}

-- at most P legs, then the ends
room : (t : Sheet) (k : FullPath) (c : EdgeCoverage) → length (finalize_path t k).path ≤ length k.roads + 4 * t.nodes → Met (Room t) (length t.points) k c → RoomBound t k
room t k c e m =
    let h = mul-le-mul_right (t.nodes + 1) m.few in
    let roads = le_trans m.holds.roads h in
    let coverages = le_trans m.holds.coverages h in
    record { roads = omega arith; coverages = omega arith; path = omega arith }

pub room_theorem : RoomTheorem
room_theorem s fine slots k c e =
    let t = parsed s in
    let wf = formed s fine in
    room t k c (ends_fit t wf k) (path_law t wf (InSheet t) (sheet_roads t wf) slots (Fits t) (routes_fit t wf) (Room t) (legs_fit t) k c e)
