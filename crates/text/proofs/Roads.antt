-- The roads of a path, as a loop over both answer lists writes them.
use Prim.Native.Nat.{ℕ, zero, suc, ◌<◌}
use mathlib.Core.Path.{◌≡◌, refl, ap, ◌∙◌}
use mathlib.Core.List.{List, [], ◌∷◌, ◌++◌}
use lib.ListN.{length, take, get_or}
use lib.Ieee.{Float}
use denote.Ref.{Bor}
use Rattle.std.specs.declared.iter.Take.{Take}
use Rattle.std.specs.declared.iter.Zip.{Zip}
use Rattle.std.specs.declared.slice.Iter.{Iter}
use Rattle.std.specs.List.{flat_map, zip}
use Rattle.std.specs.Slice.Iter.{iter_rest}
use Rattle.std.specs.Iterator.Adapters.{take_source, take_count, take_steps, zip_first, zip_second}
use Rattle.std.proofs.iter.Yields.{fronts}
use Rattle.std.proofs.lemmas.List.{length_push}
use Rattle.std.proofs.lemmas.Iterator.{YieldsList, zips, YieldsList-from_slice, YieldsList-from_zip, YieldsList-from_take}
use Rattle.text.specs.Text.{road_line, road_lines}
use Rattle.text.proofs.Lines.{so_far, next_piece, all_pieces}

-- the roads that are written
abbrev pub roads : ℕ → List ℕ → List Float → List (ℕ × Float)
roads n ids lengths = take n (zip ids lengths)

abbrev pub road : ℕ × Float → List ℕ
road r = road_line r.0 r.1

abbrev pub now : Bor ℕ × Bor Float → ℕ × Float
now r = (r.0.now, r.1.now)

pub chain : (n : ℕ) (ids : List ℕ) (lengths : List Float) (s : Take (Zip (Iter ℕ) (Iter Float)))
    → iter_rest (zip_first (take_source s)) ≡ ids → iter_rest (zip_second (take_source s)) ≡ lengths → take_count s ≡ n
    → YieldsList (take_steps (zips fronts fronts)) now s (roads n ids lengths)
chain n ids lengths s p q r = YieldsList-from_take n (YieldsList-from_zip (YieldsList-from_slice ids p) (YieldsList-from_slice lengths q)) r

-- one more road
pub next_road : (front : List ℕ) (all : List (ℕ × Float)) (before : List (Bor ℕ × Bor Float)) (x : Bor ℕ × Bor Float)
    → (length before < length all) × (now x ≡ get_or all (length before) (now x))
    → so_far front road all (length before) ++ road (now x) ≡ so_far front road all (length (before ++ x ∷ []))
next_road front all before x (h, e) = ap (λ (r : ℕ × Float). so_far front road all (length before) ++ road r) e ∙ next_piece front road all (length before) _ (now x) h (length_push before x)

listed : (n : ℕ) (ids : List ℕ) (lengths : List Float) → flat_map road (roads n ids lengths) ≡ road_lines n ids lengths
unfolding road_lines
listed zero ids lengths = refl
listed (suc n) [] lengths = refl
listed (suc n) (id ∷ ids) [] = refl
listed (suc n) (id ∷ ids) (x ∷ xs) = ap (λ (l : List ℕ). road_line id x ++ l) (listed n ids xs)

pub all_roads : (front : List ℕ) (n : ℕ) (ids : List ℕ) (lengths : List Float) (i : ℕ) → i ≡ length (roads n ids lengths) → so_far front road (roads n ids lengths) i ≡ front ++ road_lines n ids lengths
all_roads front n ids lengths i e = rw (all_pieces front road (roads n ids lengths) i e, listed n ids lengths)
