-- The two searches for a way: along the list of the road's end, and over all roads by rising number. Where the node gives no choice it is forced.
use Prim.Native.Nat.{ℕ, ◌+◌, ◌-◌, ◌<◌}
use mathlib.Core.Path.{◌≡◌, refl, sym, subst}
use mathlib.Core.Bool.{Bool, true, false, not, ◌&&◌, cond}
use mathlib.Core.Option.{none}
use mathlib.Core.List.{List, map, map-id}
use native.Mathlib.Omega.{arith}
use lib.Dec.{eqb}
use Rattle.std.specs.Prelude.{Option, option_map}
use Rattle.std.specs.List as std
use Rattle.model.specs.declared.Counts.{Counts}
use Rattle.model.specs.Lists.{In, tabulate}
use Rattle.model.specs.Judge.{WellFormed, start_of, entry_of}
use Rattle.model.specs.Sheet.{Sheet, sheet_of, road_at}
use Rattle.model.specs.Ends.{is_valid_node, way_on, way_back, forced_continuation, forced_predecessor, way}
use Rattle.model.proofs.Members.{in_tab}
use Rattle.model.proofs.Parsed.{road_count}
use Rattle.model.proofs.Fields.{entry_below}
use Rattle.sheet.proofs.Parts.{part_is, part_place}
use Rattle.road_network.specs.Graph.{Forces, first_node, first_way}
use Rattle.road_network.proofs.Runs.{run_is, found}

module _ (s : List ℕ) (c : Counts) (r : ℕ) where
  abbrev t : Sheet
  t = sheet_of s c

  -- no U-turn
  abbrev pub ahead : ℕ → Bool
  ahead x = not (eqb (road_at t x).target (road_at t r).source)

  -- what std finds along the list of node v
  pub ahead_is : WellFormed s c → {v from end : ℕ} (o : Option ℕ) → (v ≡ (road_at t r).target) × (v < c.n) → from ≡ start_of s c v → end ≡ start_of s c (v + 1)
      → option_map (λ x. x) o ≡ std.find ahead (map (entry_of s c) (std.range_with_len from (end - from))) → Forces (way_on t r) c.e o
  unfolding way_on
  ahead_is ok {v} {from} {end} o at f g q =
      let all : (x : ℕ) → In x (tabulate (end - from) from (entry_of s c)) → x < c.e =
      (λ x m. let k = in_tab _ _ (entry_of s c) m in subst (λ (y : ℕ). y < c.e) k.2 (entry_below s c ok.sound _ (part_place s c ok v at.1 _ (omega arith) (omega (arith, k.1))))) in
      rw (sym at.0, part_is s c ok v at.1, sym f, sym g) (found ahead _ o all (rw run_is q))

  -- into the node, and no U-turn
  abbrev pub behind : ℕ → Bool
  behind x = eqb (road_at t x).target (road_at t r).source && not (eqb (road_at t x).source (road_at t r).target)

  pub behind_is : (o : Option ℕ) → option_map (λ x. x) o ≡ std.find behind (std.range_with_len 0 c.e) → Forces (way_back t r) c.e o
  unfolding way_back
  behind_is o q =
      let all : (x : ℕ) → In x (tabulate c.e 0 (λ i. i)) → x < c.e = (λ x m. let k = in_tab c.e 0 (λ i. i) m in omega (arith, k.1, k.2)) in
      rw (road_count s c) (found behind _ o all (rw (run_is, map-id) q))

-- a way is forced where the node is not valid
pub way_is : (t : Sheet) (forward : Bool) (r : ℕ) → way t forward r ≡ cond (is_valid_node t (first_node t forward r)) none (first_way t forward r)
unfolding way forced_continuation forced_predecessor
way_is t true r = refl
way_is t false r = refl
