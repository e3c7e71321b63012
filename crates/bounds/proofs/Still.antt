-- With snapping off and no road of length 0 no walk adds anything: the cap is 0, and 0 plus a length that is not 0 is above it.
use Prim.Native.Nat.{ℕ, ◌*◌}
use mathlib.Core.Path.{◌≡◌, refl, ap₂, ◌∙◌}
use mathlib.Core.Bool.{Bool, true, false, not, cond}
use mathlib.Core.Option.{Option, none, some}
use mathlib.Core.List.{List, [], ◌++◌}
use lib.Dec.{T}
use lib.Ieee.{Float, eq}
use lib.Ieee.Bits.{is_true}
use Rattle.model.specs.declared.Settings.{Settings}
use Rattle.model.specs.declared.Road.{Road}
use Rattle.model.specs.Numbers.{◌⊕◌, ◌<ᶠ◌, f0}
use Rattle.model.specs.Lists.{In, head, last, maybe}
use Rattle.model.specs.Sheet.{Sheet, road_at}
use Rattle.model.specs.Decode.{SegmentInfo, FullPath}
use Rattle.model.specs.Ends.{way, Walk, no_walk, with_road, meets, walked, walk, extension, snap_cap_m, PathEnd, at_end, at_start, FinalPath, final_path_of, extend_ends, finalize_path}
use Rattle.model.proofs.Members.{in_getD}
use Rattle.bounds.specs.Formed.{Formed}
use Rattle.bounds.proofs.AmountLaws.{sum_above}
use Rattle.bounds.proofs.WalkBound.{way_forced}

-- with snapping off the cap is 0
pub cap_off : (c : Settings) (g : SegmentInfo) → c.snap_to_valid_nodes ≡ false → snap_cap_m c g ≡ f0
unfolding snap_cap_m
cap_off c g e = rw e

-- ---- a walk whose first step is past the cap adds nothing

both_none : (b : Bool) → ◌≡◌ {A = Option Walk} (cond b none none) none
both_none true = refl
both_none false = refl

-- an end without a walk is kept
none_kept : {A : Type 0} (o : Option ℕ) (e : A) (w : ℕ → Option Walk) (f : ℕ → Walk → A) → ((r : ℕ) → w r ≡ none) → maybe o e (λ r. maybe (w r) e (f r)) ≡ e
unfolding maybe
none_kept none e w f h = refl
none_kept (some r) e w f h = rw (h r)

module _ (t : Sheet) (f : Formed t) (long : (r : Road) → In r t.roads → T (not (eq r.length_m f0))) where
  -- a forced road is past the cap 0
  past : (forward : Bool) (y x : ℕ) → way t forward y ≡ some x → f0 <ᶠ f0 ⊕ (road_at t x).length_m ≡ true
  past forward y x h =
      let m = in_getD t.roads x _ (way_forced t f forward y x h).below in
      is_true (f0 <ᶠ f0 ⊕ (road_at t x).length_m) (sum_above (road_at t x).length_m (f.roads (road_at t x) m).length_m (long (road_at t x) m))

  extension_still : (forward : Bool) (path : List ℕ) (r : ℕ) → extension t forward f0 path r ≡ none
  unfolding walk maybe walked
  extension_still forward path r = go (way t forward r) (past forward r)
    where
      go : (o : Option ℕ) → ((x : ℕ) → o ≡ some x → f0 <ᶠ f0 ⊕ (road_at t x).length_m ≡ true)
          → maybe o (walked no_walk) (λ x. cond (meets x (path ++ [])) none (cond (f0 <ᶠ (with_road t x no_walk).added_m) none (walk (2 * t.nodes) t forward f0 path x (with_road t x no_walk)))) ≡ none
      go none h = refl
      go (some x) h = rw (h x refl) (both_none (meets x (path ++ [])))

  end_still : (e : PathEnd) → at_end t f0 e ≡ e
  unfolding at_end
  end_still e = none_kept (last e.path) e (extension t true f0 e.path) _ (extension_still true e.path)

  start_still : (e : PathEnd) → at_start t f0 e ≡ e
  unfolding at_start
  start_still e = none_kept (head e.path) e (extension t false f0 e.path) _ (extension_still false e.path)

  extend_still : (p : FinalPath) → extend_ends t f0 f0 p ≡ p
  unfolding extend_ends
  extend_still p = simp (end_still, start_still)

  -- the ends leave a full path as it is
  pub finalize_plain : t.settings.snap_to_valid_nodes ≡ false → (k : FullPath) → finalize_path t k ≡ final_path_of k
  unfolding finalize_path
  finalize_plain e k = ap₂ (λ (a b : Float). extend_ends t a b (final_path_of k)) (cap_off t.settings k.first_segment e) (cap_off t.settings k.last_segment e) ∙ extend_still (final_path_of k)
