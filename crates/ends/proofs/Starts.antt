-- A walk adds nothing from a valid node, nor without a first way within the cap, whatever choice the node gives.
use Prim.Native.Nat.{ℕ}
use mathlib.Core.Path.{◌≡◌, refl, ◌∙◌}
use mathlib.Core.Bool.{Bool, true, false, cond}
use mathlib.Core.Option.{Option, none, some}
use mathlib.Core.List.{List, [], ◌++◌}
use lib.Ieee.{Float}
use Rattle.model.specs.Numbers.{◌⊕◌, ◌<ᶠ◌, f0}
use Rattle.model.specs.Lists.{maybe}
use Rattle.model.specs.Sheet.{Sheet, road_at}
use Rattle.model.specs.Ends.{is_valid_node, way, meets, walked, walk, extension}
use Rattle.road_network.specs.Graph.{first_node, first_way}
use Rattle.road_network.proofs.Ways.{way_is}

-- a test between none and none
either_none : {A : Type 0} (b : Bool) → cond {A = Option A} b none none ≡ none
either_none true = refl
either_none false = refl

module _ (t : Sheet) (forward : Bool) (cap : Float) (path : List ℕ) (r : ℕ) where
  none_forced : way t forward r ≡ none → extension t forward cap path r ≡ none
  unfolding walk walked maybe
  none_forced h = rw h

  forced_far : (x : ℕ) → way t forward r ≡ some x → cap <ᶠ f0 ⊕ (road_at t x).length_m ≡ true → extension t forward cap path r ≡ none
  unfolding walk maybe
  forced_far x h q = rw (h, q) (either_none (meets x (path ++ [])))

  pub valid_none : is_valid_node t (first_node t forward r) ≡ true → extension t forward cap path r ≡ none
  valid_none h = none_forced (way_is t forward r ∙ rw h)

  pub no_way_none : first_way t forward r ≡ none → extension t forward cap path r ≡ none
  no_way_none h = none_forced (way_is t forward r ∙ rw h (either_none (is_valid_node t (first_node t forward r))))

  pub far_none : {x : ℕ} {d : Float} → first_way t forward r ≡ some x → d ≡ (road_at t x).length_m → cap <ᶠ f0 ⊕ d ≡ true → extension t forward cap path r ≡ none
  far_none {x} h g q = go (is_valid_node t (first_node t forward r)) refl
    where
      go : (b : Bool) → is_valid_node t (first_node t forward r) ≡ b → extension t forward cap path r ≡ none
      go true e = valid_none e
      go false e = forced_far x (way_is t forward r ∙ rw (e, h)) (rw g at q)
