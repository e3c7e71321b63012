-- The coverages of a leg, one after the other.
use Rattle.std.proofs.Common.{◌≡◌, ℕ, ◌+◌, ◌<◌, ◌≤◌, List, [], ◌∷◌, ◌++◌, map, length, get_or, take, refl, ◌∙◌, append_assoc, take_all}
use Rattle.std.proofs.lemmas.List.{map-append, take_more}
use Rattle.std.specs.Float.Ieee.{Float}
use Rattle.model.specs.Lists.{fold}
use Rattle.model.specs.Sheet.{Sheet, road_at}
use Rattle.model.specs.Legs.{EdgeCoverage, whole}

pub fold-append : {A B : Type 0} (f : B → A → B) (b : B) (xs ys : List A) → fold f b (xs ++ ys) ≡ fold f (fold f b xs) ys
unfolding fold
fold-append f b [] ys = refl
fold-append f b (x ∷ xs) ys = fold-append f (f b x) xs ys

-- the roads of the middle, covered whole
abbrev pub wholes : Sheet → List ℕ → List EdgeCoverage
wholes t ks = map whole (map (road_at t) ks)

module _ (t : Sheet) (f : List EdgeCoverage → EdgeCoverage → List EdgeCoverage) (ks xs : List EdgeCoverage) (ns : List ℕ) (i : ℕ) (h : i < length ns) {now next : List EdgeCoverage} {m : Float} where
  -- one more of them
  pub whole_more : now ≡ fold f ks (xs ++ wholes t (take i ns))
      → next ≡ f now record { road = road_at t (get_or ns i 0); coverage_m = m }
      → m ≡ (road_at t (get_or ns i 0)).length_m
      → next ≡ fold f ks (xs ++ wholes t (take (i + 1) ns))
  unfolding fold whole
  whole_more is step metres =
      let x = whole (road_at t (get_or ns i 0)) in
      let longer : wholes t (take (i + 1) ns) ≡ wholes t (take i ns) ++ x ∷ [] = rw (take_more ns i 0 h, map-append (road_at t) (take i ns) (get_or ns i 0 ∷ []), map-append whole (map (road_at t) (take i ns)) (road_at t (get_or ns i 0) ∷ [])) in
      step ∙ rw (metres, is, longer, ← append_assoc xs (wholes t (take i ns)) (x ∷ []), fold-append f ks (xs ++ wholes t (take i ns)) (x ∷ []))

-- all of them, and those behind
module _ (t : Sheet) (f : List EdgeCoverage → EdgeCoverage → List EdgeCoverage) (ks xs : List EdgeCoverage) (ns : List ℕ) (i : ℕ) (h : length ns ≤ i) (ys : List EdgeCoverage) {now next : List EdgeCoverage} where
  pub whole_last : now ≡ fold f ks (xs ++ wholes t (take i ns)) → next ≡ fold f now ys → next ≡ fold f ks (xs ++ wholes t ns ++ ys)
  whole_last is step = step ∙ rw (is, take_all i ns h, fold-append f ks (xs ++ wholes t ns) ys)
