-- What the walks at both ends do to a full path: at most 4 N roads more, all of the sheet, and offsets that stay amounts. Each law is shown of an end as it was and of one with a walk's roads.
use Prim.Native.Nat.{ℕ, suc, ◌+◌, ◌*◌, ◌≤◌, ◌<◌, suc-le-suc}
use mathlib.Core.Path.{◌≡◌, refl, sym, ap, ◌∙◌, subst}
use mathlib.Core.Logic.{◌⊎◌, inl, inr}
use mathlib.Core.Bool.{true, false}
use mathlib.Core.Option.{Option, none, some}
use mathlib.Core.List.Memᴰ
use mathlib.Core.List.{List, [], ◌∷◌, ◌++◌, reverse, reverse_aux}
use native.Mathlib.Nat.{zero-lt-suc}
use native.Mathlib.Omega.{arith}
use lib.ListN.{length, get_or, length-append, length-map, length-reverse}
use lib.Ieee.{Float}
use Rattle.model.specs.declared.Road.{Road}
use Rattle.model.specs.Numbers.{◌⊕◌}
use Rattle.model.specs.Lists.{In, head, last, maybe}
use Rattle.model.specs.Sheet.{Sheet, road_at, no_road}
use Rattle.model.specs.Decode.{FullPath}
use Rattle.model.specs.Ends.{Walk, extension, lrp_prefers, snap_cap_m, PathEnd, at_end, at_start, final_path_of, extend_ends, finalize_path}
use Rattle.model.proofs.Members.{either}
use Rattle.bounds.specs.Amounts.{Amount}
use Rattle.bounds.specs.Formed.{Formed}
use Rattle.bounds.proofs.Rank.{add_amount}
use Rattle.bounds.proofs.WalkBound.{Trail, trail_few, extension_trail}

-- ---- lists

-- what stands in a list turned round stands in it
pub in_reverse : {A : Type 0} {z : A} (xs : List A) → In z (reverse xs) → In z xs
in_reverse {A} {z} xs m = elim (go xs [] m) [ inl k ↦ k | inr k ↦ absurd (Memᴰ.not-nil k) ]
  where
    go : (xs ys : List A) → In z (reverse_aux xs ys) → In z xs ⊎ In z ys
    go [] ys m = inr m
    go (x ∷ xs) ys m = elim (go xs (x ∷ ys) m) [
      | inl k ↦ inl (Memᴰ.tail k)
      | inr k ↦ elim (Memᴰ.cases_cons k) [ inl e ↦ inl (Memᴰ.head e) | inr j ↦ inr j ]
    ]

-- where a member stands
pub in_place : {A : Type 0} {x : A} {xs : List A} (d : A) → In x xs → (i : ℕ) × (i < length xs) × (get_or xs i d ≡ x)
in_place d (Memᴰ.head {xs} e) = (0, zero-lt-suc (length xs), sym e)
in_place d (Memᴰ.tail m) = let k = in_place d m in (suc k.0, suc-le-suc k.1, k.2)

-- ---- both ends

-- what holds without a value and with the one there is holds of an Option taken apart
maybe_holds : {A B : Type 0} (P : B → Type 0) (o : Option A) {b : B} {f : A → B} → P b → ((x : A) → o ≡ some x → P (f x)) → P (maybe o b f)
unfolding maybe
maybe_holds P none h k = h
maybe_holds P (some x) h k = k x refl

module _ (t : Sheet) (f : Formed t) where
  -- what holds of an end as it was, and with the roads of any walk, holds of it after its walk
  pub end_holds : (P : PathEnd → Type 0) (cap : Float) (e : PathEnd) → P e → ((w : Walk) → Trail t f true w → P (record { path = e.path ++ w.added; offset = e.offset ⊕ w.added_m })) → P (at_end t cap e)
  unfolding at_end
  end_holds P cap e h k =
      maybe_holds P (last e.path) h (λ r _.
      maybe_holds P (extension t true cap e.path r) h (λ w g.
      maybe_holds P (last w.added) h (λ x _.
      either P (lrp_prefers t.from_last (road_at t x).target (road_at t r).target) (k w (extension_trail t f true cap e.path r w g)) h)))

  pub start_holds : (P : PathEnd → Type 0) (cap : Float) (e : PathEnd) → P e → ((w : Walk) → Trail t f false w → P (record { path = reverse w.added ++ e.path; offset = e.offset ⊕ w.added_m })) → P (at_start t cap e)
  unfolding at_start
  start_holds P cap e h k =
      maybe_holds P (head e.path) h (λ r _.
      maybe_holds P (extension t false cap e.path r) h (λ w g.
      maybe_holds P (last w.added) h (λ x _.
      either P (lrp_prefers t.from_first (road_at t x).source (road_at t r).source) (k w (extension_trail t f false cap e.path r w g)) h)))

  -- ---- at most 2 N roads at each end

  end_fits : (cap : Float) (e : PathEnd) → length (at_end t cap e).path ≤ length e.path + 2 * t.nodes
  end_fits cap e = end_holds (λ b. length b.path ≤ length e.path + 2 * t.nodes) cap e (omega arith) (λ w k. omega (arith, length-append e.path w.added, trail_few t f true w k))

  start_fits : (cap : Float) (e : PathEnd) → length (at_start t cap e).path ≤ length e.path + 2 * t.nodes
  start_fits cap e = start_holds (λ b. length b.path ≤ length e.path + 2 * t.nodes) cap e (omega arith)
      (λ w k. omega (arith, length-append (reverse w.added) e.path, length-reverse w.added, trail_few t f false w k))

  -- ---- roads of the sheet

  abbrev Below : List ℕ → Type 0
  Below path = (x : ℕ) → In x path → x < length t.roads

  end_numbers : (cap : Float) (e : PathEnd) → Below e.path → Below (at_end t cap e).path
  end_numbers cap e h = end_holds (λ b. Below b.path) cap e h (λ w k x m. elim (Memᴰ.append_cases e.path m) [ inl j ↦ h x j | inr j ↦ (k.forced x j).below ])

  start_numbers : (cap : Float) (e : PathEnd) → Below e.path → Below (at_start t cap e).path
  start_numbers cap e h = start_holds (λ b. Below b.path) cap e h (λ w k x m. elim (Memᴰ.append_cases (reverse w.added) m) [ inl j ↦ (k.forced x (in_reverse w.added j)).below | inr j ↦ h x j ])

  -- ---- offsets

  end_amount : (cap : Float) (e : PathEnd) → Amount e.offset → Amount (at_end t cap e).offset
  end_amount cap e h = end_holds (λ b. Amount b.offset) cap e h (λ w k. add_amount e.offset w.added_m h k.added_m)

  start_amount : (cap : Float) (e : PathEnd) → Amount e.offset → Amount (at_start t cap e).offset
  start_amount cap e h = start_holds (λ b. Amount b.offset) cap e h (λ w k. add_amount e.offset w.added_m h k.added_m)

  -- a road of the sheet has its place as its number
  pub own_road : (r : Road) → In r t.roads → (r.number < length t.roads) × (road_at t r.number ≡ r)
  own_road r m =
      let k = in_place no_road m in
      subst (λ (i : ℕ). (i < length t.roads) × (road_at t i ≡ r)) (sym (f.numbered k.0 k.1) ∙ ap (λ (x : Road). x.number) k.2) (k.1, k.2)

  pub number_below : (r : Road) → In r t.roads → r.number < length t.roads
  number_below r m = (own_road r m).0

  -- ---- a whole full path

  module _ (k : FullPath) where
    -- how far each walk may go
    abbrev start_cap : Float
    start_cap = snap_cap_m t.settings k.first_segment

    abbrev end_cap : Float
    end_cap = snap_cap_m t.settings k.last_segment

    -- the full path before the walk at its end, and before the one at its start
    abbrev behind : PathEnd
    behind = record { path = (final_path_of k).path; offset = k.last_segment.end_offset_m }

    abbrev before : PathEnd
    before = record { path = (at_end t end_cap behind).path; offset = k.first_segment.start_offset_m }

    -- at most 4 N roads more; every number is a road's; the offsets stay amounts
    pub ends_fit : length (finalize_path t k).path ≤ length k.roads + 4 * t.nodes
    unfolding finalize_path extend_ends
    ends_fit = omega (arith, start_fits start_cap before, end_fits end_cap behind, length-map k.roads (λ (r : Road). r.number))

    pub ends_numbers : ((r : Road) → In r k.roads → In r t.roads) → (x : ℕ) → In x (finalize_path t k).path → x < length t.roads
    unfolding finalize_path extend_ends
    ends_numbers h =
        start_numbers start_cap before (end_numbers end_cap behind
        (λ x m. let j = Memᴰ.of_map (λ (r : Road). r.number) k.roads m in subst (λ (i : ℕ). i < length t.roads) j.2 (number_below j.0 (h j.0 j.1))))

    pub ends_amounts : Amount k.first_segment.start_offset_m → Amount k.last_segment.end_offset_m → Amount (finalize_path t k).start_offset × Amount (finalize_path t k).end_offset
    unfolding finalize_path extend_ends
    ends_amounts p q = (start_amount start_cap before p, end_amount end_cap behind q)
