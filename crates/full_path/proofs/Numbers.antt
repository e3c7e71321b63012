-- The roads of a route and those behind a path, by their numbers.
use Rattle.std.proofs.Common.{◌≡◌, ℕ, suc, ◌<◌, Bool, true, false, cond, eqb, List, [], ◌∷◌, ◌++◌, map, length, get_or, Option, Some, None, refl, sym, ap, ap₂, ◌∙◌, arith, append-nil}
use Rattle.std.proofs.lemmas.List.{map-append}
use Rattle.std.proofs.lemmas.Simd.{map-map}
use Rattle.std.proofs.Math.Option as definition
use Rattle.model.specs.declared.Counts.{Counts}
use Rattle.model.specs.declared.Road.{Road}
use Rattle.model.specs.Lists.{last, maybe}
use Rattle.model.specs.Sheet.{Sheet, road_at}
use Rattle.model.specs.Legs.{EdgeCoverage, whole}
use Rattle.model.specs.Decode.{roads_of, same_number, append}
use Rattle.rules.specs.declared.PathResult.{PathResult}
use Rattle.rules.specs.declared.TerminalEdge.{TerminalEdge}
use Rattle.rules.specs.Code.{terminal_of}
use Rattle.full_path.specs.Left.{path_of, covers, Numbered, Known, terminal_numbers, numbers_of, unwritten}

abbrev number : Road → ℕ
number x = x.number

-- ---- the roads of a route

same_all : (f : ℕ → ℕ) (ks : List ℕ) → ((j : ℕ) → j < length ks → f (get_or ks j 0) ≡ get_or ks j 0) → map f ks ≡ ks
same_all f [] h = refl
same_all f (k ∷ ks) h = ap₂ (λ (x : ℕ) (xs : List ℕ). x ∷ xs) (h 0 (omega arith)) (same_all f ks (λ j l. h (suc j) (omega arith)))

terminal_is : (p : Option TerminalEdge) → map (λ (x : EdgeCoverage). x.road.number) (terminal_of p) ≡ terminal_numbers p
terminal_is None = refl
terminal_is (Some x) = refl

-- a road of the sheet has its own number
pub numbers_are : (t : Sheet) (c : Counts) (r : PathResult) (ks : List ℕ) → Numbered t c.e → Known t c r ks → map (λ (x : Road). x.number) (roads_of (path_of t r ks)) ≡ numbers_of r ks
unfolding whole
numbers_are t c r ks own known =
    let f : EdgeCoverage → ℕ = λ x. x.road.number in
    let middle : map f (map whole (map (road_at t) ks)) ≡ ks =
    map-map f whole (map (road_at t) ks) ∙ map-map (λ (x : Road). f (whole x)) (road_at t) ks ∙ same_all (λ k. (road_at t k).number) ks (λ j l. own (get_or ks j 0) (known.numbers j l)) in
    map-map number (λ (x : EdgeCoverage). x.road) (covers t r ks)
    ∙ map-append f (terminal_of r.head ++ map whole (map (road_at t) ks)) (terminal_of r.tail)
    ∙ rw (map-append f (terminal_of r.head) (map whole (map (road_at t) ks)), terminal_is r.head, terminal_is r.tail, middle)

-- ---- behind a path

last_number : (path : List Road) → last (map number path) ≡ definition.map number (last path)
unfolding last
last_number [] = refl
last_number (x ∷ []) = refl
last_number (x ∷ y ∷ ys) = last_number (y ∷ ys)

module _ (r : Road) (rs : List Road) where
  taken : (b : Bool) → map number (cond b rs (r ∷ rs)) ≡ cond b (map number rs) (map number (r ∷ rs))
  taken true = refl
  taken false = refl

  behind : (o : definition.Option Road) → map number (maybe o (r ∷ rs) (λ x. cond (same_number x r) rs (r ∷ rs))) ≡ unwritten (definition.map number o) (map number (r ∷ rs))
  unfolding unwritten maybe same_number
  behind definition.none = refl
  behind (definition.some x) = taken (eqb x.number r.number)

pub append_numbers : (path rs : List Road) → map (λ (x : Road). x.number) (append path rs) ≡ map (λ (x : Road). x.number) path ++ unwritten (last (map (λ (x : Road). x.number) path)) (map (λ (x : Road). x.number) rs)
unfolding append unwritten
append_numbers path [] = sym (append-nil (map number path))
append_numbers path (r ∷ rs) =
    map-append number path (maybe (last path) (r ∷ rs) (λ x. cond (same_number x r) rs (r ∷ rs)))
    ∙ ap (λ (xs : List ℕ). map number path ++ xs) (behind r rs (last path) ∙ ap (λ o. unwritten o (map number (r ∷ rs))) (sym (last_number path)))
