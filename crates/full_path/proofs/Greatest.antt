-- The greatest coverage, one entry after the other.
use Rattle.std.proofs.Common.{◌≡◌, ◌⊎◌, inl, inr, ℕ, suc, ◌<◌, Bool, true, false, cond, List, [], ◌∷◌, map, length, Option, Some, None, refl, ap, ◌∙◌, arith}
use Rattle.std.specs.List.{reduce, fold}
use Rattle.std.specs.Float.Ieee.{Float}
use Rattle.std.proofs.Math.Option as definition
use Rattle.model.specs.Numbers.{◌<ᶠ◌}
use Rattle.model.specs.Lists as lists
use Rattle.model.specs.Sheet.{Sheet}
use Rattle.model.specs.Decode.{primary_edge}
use Rattle.model.specs.Decode as decode
use Rattle.search.specs.Answers.{RoadNumbers}
use Rattle.full_path.specs.declared.EdgeCoverage.{EdgeCoverage}
use Rattle.full_path.specs.Left.{coverage_of, paired, primary_of, Within}

-- the first of two if equal
abbrev pub greater : EdgeCoverage → EdgeCoverage → EdgeCoverage
greater a b = cond (a.coverage_m <ᶠ b.coverage_m) b a

-- the greatest of those so far and the rest
abbrev pub greatest_on : Option EdgeCoverage → List EdgeCoverage → Option EdgeCoverage
greatest_on None xs = reduce greater xs
greatest_on (Some b) xs = Some (fold greater b xs)

none_paired : (rs : List ℕ) (ms : List Float) → (length rs ≡ 0) ⊎ (length ms ≡ 0) → paired rs ms ≡ []
none_paired [] ms h = refl
none_paired (r ∷ rs) [] h = refl
none_paired (r ∷ rs) (m ∷ ms) (inl h) = absurd (omega arith)
none_paired (r ∷ rs) (m ∷ ms) (inr h) = absurd (omega arith)

-- nothing is left
pub greatest_end : (b : Option EdgeCoverage) (rs : List ℕ) (ms : List Float) → (length rs ≡ 0) ⊎ (length ms ≡ 0) → greatest_on b (paired rs ms) ≡ b
greatest_end None rs ms h = rw (none_paired rs ms h)
greatest_end (Some x) rs ms h = rw (none_paired rs ms h)

-- as the definition has it
module _ (t : Sheet) where
  greater_as : (b : Bool) (x y : EdgeCoverage) → coverage_of t (cond b y x) ≡ cond b (coverage_of t y) (coverage_of t x)
  greater_as true x y = refl
  greater_as false x y = refl

  fold_as : (b : EdgeCoverage) (xs : List EdgeCoverage) → coverage_of t (fold greater b xs) ≡ lists.fold decode.greater (coverage_of t b) (map (coverage_of t) xs)
  unfolding lists.fold decode.greater
  fold_as b [] = refl
  fold_as b (x ∷ xs) = fold_as (greater b x) xs ∙ ap (λ y. lists.fold decode.greater y (map (coverage_of t) xs)) (greater_as (b.coverage_m <ᶠ x.coverage_m) b x)

  pub greatest_as : (o : Option EdgeCoverage) (xs : List EdgeCoverage) → o ≡ reduce greater xs → primary_of t o ≡ primary_edge (map (coverage_of t) xs)
  unfolding primary_edge
  greatest_as o [] e = rw e
  greatest_as o (x ∷ xs) e = rw e (ap (λ y. definition.some y) (fold_as x xs))

-- it is one of the roads
module _ (e : ℕ) where
  either : (b : Bool) (x y : EdgeCoverage) → x.edge_idx < e → y.edge_idx < e → (cond b y x).edge_idx < e
  either true x y h k = k
  either false x y h k = h

  fold_within : (b : EdgeCoverage) (rs : List ℕ) (ms : List Float) → b.edge_idx < e → RoadNumbers e (length rs) rs → (fold greater b (paired rs ms)).edge_idx < e
  fold_within b [] ms known below = known
  fold_within b (r ∷ rs) [] known below = known
  fold_within b (r ∷ rs) (m ∷ ms) known below =
      fold_within (greater b record { edge_idx = r; coverage_m = m }) rs ms (either (b.coverage_m <ᶠ m) b record { edge_idx = r; coverage_m = m } known (below 0 (omega arith))) (λ j h. below (suc j) (omega arith))

  pub greatest_within : (o : Option EdgeCoverage) (rs : List ℕ) (ms : List Float) → o ≡ reduce greater (paired rs ms) → RoadNumbers e (length rs) rs → Within e o
  greatest_within o [] ms is below = rw is tt
  greatest_within o (r ∷ rs) [] is below = rw is tt
  greatest_within o (r ∷ rs) (m ∷ ms) is below = rw is (fold_within record { edge_idx = r; coverage_m = m } rs ms (below 0 (omega arith)) (λ j h. below (suc j) (omega arith)))
