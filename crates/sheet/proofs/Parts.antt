-- A node's part of the lists: the run of entries from its start to the next node's, each of a road that leaves the node.
use Prim.Native.Nat.{ℕ, zero, suc, ◌+◌, ◌-◌, ◌≤◌, ◌<◌}
use mathlib.Core.Path.{◌≡◌, refl, ap, ◌∙◌}
use mathlib.Core.List.{List, ◌∷◌, map}
use native.Mathlib.Omega.{arith}
use lib.ListN.{get_or}
use Rattle.model.specs.declared.Counts.{Counts}
use Rattle.model.specs.declared.Road.{Road}
use Rattle.model.specs.Lists.{tabulate}
use Rattle.model.specs.Judge.{WellFormed, source_of, start_of, entry_of}
use Rattle.model.specs.Sheet.{part, sheet_of, road_at, list_at, leaving_roads}
use Rattle.model.proofs.Members.{getD_tab}
use Rattle.model.proofs.Fields.{entry_below}
use Rattle.model.proofs.Listed as listed
use Rattle.model.proofs.Parsed.{list_is, source_is}

-- what a function makes of a run is the run of what it makes
pub map_tab : {A B : Type 0} (g : A → B) (f : ℕ → A) (n i : ℕ) → map g (tabulate n i f) ≡ tabulate n i (λ k. g (f k))
unfolding tabulate
map_tab g f zero i = refl
map_tab {B} g f (suc n) i = ap (λ (ys : List B). g (f i) ∷ ys) (map_tab g f n (i + 1))

module _ (s : List ℕ) (c : Counts) (ok : WellFormed s c) (v : ℕ) (h : v < c.n) where
  pub starts_rise : start_of s c v ≤ start_of s c (v + 1)
  starts_rise = listed.start_le s c ok.sound ok.lists v (v + 1) (omega arith) (omega arith)

  -- the roads leaving v: the entries from its start on, up to the next start
  pub part_is : list_at (sheet_of s c) v ≡ tabulate (start_of s c (v + 1) - start_of s c v) (start_of s c v) (entry_of s c)
  unfolding part
  part_is = list_is s c v h

  pub leaving_are : leaving_roads (sheet_of s c) v ≡ tabulate (start_of s c (v + 1) - start_of s c v) (start_of s c v) (λ j. road_at (sheet_of s c) (entry_of s c j))
  leaving_are = ap (map (road_at (sheet_of s c))) part_is ∙ map_tab (road_at (sheet_of s c)) (entry_of s c) _ _

  -- the k-th of them
  module _ (k : ℕ) (hk : k < start_of s c (v + 1) - start_of s c v) where
    pub part_entry : (d : ℕ) → get_or (list_at (sheet_of s c) v) k d ≡ entry_of s c (start_of s c v + k)
    part_entry d = ap (λ (es : List ℕ). get_or es k d) part_is ∙ getD_tab _ _ (entry_of s c) k d hk

    pub leaving_road : (d : Road) → get_or (leaving_roads (sheet_of s c) v) k d ≡ road_at (sheet_of s c) (entry_of s c (start_of s c v + k))
    leaving_road d = ap (λ (rs : List Road). get_or rs k d) leaving_are ∙ getD_tab _ _ (λ j. road_at (sheet_of s c) (entry_of s c j)) k d hk

  module _ (j : ℕ) (from : start_of s c v ≤ j) (to : j < start_of s c (v + 1)) where
    -- a place of the part is a place of the lists
    pub part_place : j < c.e
    part_place = omega (arith, listed.start_most s c ok.sound ok.lists (v + 1) (omega arith))

    -- the road there leaves v
    pub part_source : (road_at (sheet_of s c) (entry_of s c j)).source ≡ v
    unfolding source_of
    part_source =
        source_is s c (entry_of s c j) (entry_below s c ok.sound j part_place)
        ∙ listed.part_source s c ok.sound ok.lists v j h from to
