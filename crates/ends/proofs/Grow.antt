-- The walk at an end kept or not: what then stands in the list of the path.
use Prim.Native.Nat.{ℕ, ◌+◌, ◌-◌, ◌*◌, ◌≤◌, ◌<◌}
use native.Mathlib.Omega.{arith}
use mathlib.Core.Path.{◌≡◌, refl, sym, ap, subst, ◌∙◌}
use mathlib.Core.Logic.{inl, inr}
use mathlib.Core.Bool.{Bool, true, false, cond}
use mathlib.Core.Option.{none, some}
use mathlib.Core.List.Memᴰ
use mathlib.Core.List.{List, [], ◌∷◌, ◌++◌, reverse}
use lib.ListN.{length, get_or, take, drop, take-append-drop, length-append, length-reverse, get_or-append}
use lib.Seq.{length-take-le, take-length, take-append_seam, drop-append_seam, take-append-add}
use lib.Ieee.{Float}
use Rattle.model.specs.Numbers.{◌⊕◌, ◌<ᶠ◌, f0}
use Rattle.model.specs.Lists.{In, head, last, maybe}
use Rattle.model.specs.Sheet.{Sheet}
use Rattle.model.specs.Ends.{Walk, extension, lrp_prefers, PathEnd, at_end, at_start}
use Rattle.model.proofs.Members.{in_getD, last_part}
use Rattle.bounds.proofs.EndBound.{in_reverse, in_place}
use Rattle.search.specs.Answers.{RoadNumbers}
use Rattle.road_network.specs.Graph.{first_node}
use Rattle.ends.specs.Post.{Added}
use Rattle.ends.specs.Sides.{terminal, distances, placed, walked}
use Rattle.ends.specs.Whole.{EndHeld}
use Rattle.ends.specs.declared.walks.Extension.{Extension}

pub head_is : (ids : List ℕ) → 0 < length ids → head ids ≡ some (get_or ids 0 0)
unfolding head
head_is [] h = absurd (omega arith)
head_is (x ∷ ids) h = refl

last_is : (ids : List ℕ) → 0 < length ids → last ids ≡ some (get_or ids (length ids - 1) 0)
last_is ids h = ap last (sym (take-length ids)) ∙ last_part 0 (length ids) ids h (omega arith)

-- ---- the numbers of roads, by place and by membership

Below : ℕ → List ℕ → Type 0
Below e xs = (x : ℕ) → In x xs → x < e

below_of : {e : ℕ} (xs ys : List ℕ) (n : ℕ) → length xs ≡ n → RoadNumbers e n (xs ++ ys) → Below e xs
unfolding Below
below_of {e} xs ys n h ns x m =
    let k = in_place 0 m in
    subst (λ (y : ℕ). y < e) (get_or-append xs ys 0 k.0 k.1 ∙ k.2) (ns k.0 (omega (arith, k.1)))

numbers_of : {e : ℕ} (xs ys : List ℕ) (n : ℕ) → length xs ≡ n → Below e xs → RoadNumbers e n (xs ++ ys)
unfolding Below
numbers_of {e} xs ys n h all i l =
    let inside : i < length xs = omega (arith, h) in
    rw (get_or-append xs ys 0 i inside) (all (get_or xs i 0) (in_getD xs i 0 inside))

-- ---- a path and the roads added to it, the nearest first, at its end or its start

joined : Bool → List ℕ → List ℕ → List ℕ
joined forward path added = cond forward (path ++ added) (reverse added ++ path)

joined_size : (forward : Bool) (path added : List ℕ) → length (joined forward path added) ≡ length path + length added
unfolding joined
joined_size true path added = length-append path added
joined_size false path added = length-append (reverse added) path ∙ omega (arith, length-reverse added)

joined_below : (e : ℕ) (forward : Bool) (path added : List ℕ) → Below e path → Below e added → Below e (joined forward path added)
unfolding joined Below
joined_below e true path added p a x m = elim (Memᴰ.append_cases path m) [ inl j ↦ p x j | inr j ↦ a x j ]
joined_below e false path added p a x m = elim (Memᴰ.append_cases (reverse added) m) [ inl j ↦ a x (in_reverse added j) | inr j ↦ p x j ]

placed_is : (forward : Bool) (path added : List ℕ) → placed forward (length path) (path ++ added) ≡ joined forward path added
unfolding joined
placed_is true path added = refl
placed_is false path added = rw (drop-append_seam path added, take-append_seam path added)

-- ---- the definition, at either end

abbrev pub before : List ℕ → Float → PathEnd
before path offset = record { path = path; offset = offset }

abbrev after : Bool → List ℕ → Float → Walk → PathEnd
after forward path offset w = record { path = joined forward path w.added; offset = offset ⊕ w.added_m }

abbrev nearer : Sheet → Bool → List ℕ → ℕ → Bool
nearer t forward path x = lrp_prefers (distances t forward) (first_node t forward x) (first_node t forward (terminal forward path))

walked_is : (t : Sheet) (forward : Bool) (cap offset : Float) (path : List ℕ) → 0 < length path
    → walked forward t cap (before path offset)
    ≡ maybe (extension t forward cap path (terminal forward path)) (before path offset) (λ w. maybe (last w.added) (before path offset) (λ x. cond (nearer t forward path x) (after forward path offset w) (before path offset)))
unfolding at_end at_start maybe joined
walked_is t true cap offset path h = rw (last_is path h)
walked_is t false cap offset path h = rw (head_is path h)

module _ (t : Sheet) (forward : Bool) (cap offset : Float) (n e p : ℕ) (path room₀ room : List ℕ) (size : length path ≡ p) (some_road : 0 < p) (numbers : RoadNumbers e p (path ++ room₀)) (fits : 2 * n ≤ length room) where
  abbrev r : ℕ
  r = terminal forward path

  abbrev held : PathEnd
  held = walked forward t cap (before path offset)

  -- the path is as it was
  as_was : held ≡ before path offset → EndHeld held e (p + 2 * n) (path ++ room) (record { count = p; offset = offset })
  as_was h =
      rw h
      (record {
        path = rw (sym size) (take-append_seam path room);
        offset = refl;
        some_road = some_road;
        room = omega arith;
        numbers = numbers_of path room p size (below_of path room₀ p size numbers);
      })

  pub none_added : extension t forward cap path r ≡ none → EndHeld held e (p + 2 * n) (path ++ room) (record { count = p; offset = offset })
  unfolding maybe
  none_added h = as_was (walked_is t forward cap offset path (omega (arith, size)) ∙ rw h)

  module _ {x : Extension} (a : Added (extension t forward cap path r) n e room x) where
    abbrev added : List ℕ
    added = take x.count room

    abbrev top : ℕ
    top = get_or room (x.count - 1) 0

    held_is : held ≡ cond (nearer t forward path top) (after forward path offset (record { added = added; added_m = x.metres })) (before path offset)
    unfolding maybe
    held_is = walked_is t forward cap offset path (omega (arith, size)) ∙ rw (a.is, last_part 0 x.count room a.some_added (omega (arith, a.few)))

    module _ {new old : ℕ} {d f : Float} (nw : new ≡ first_node t forward top) (od : old ≡ first_node t forward r) (dn : d ≡ get_or (distances t forward) new f0) (df : f ≡ get_or (distances t forward) old f0) where
      test : {b : Bool} → d <ᶠ f ≡ b → nearer t forward path top ≡ b
      test q = rw (sym nw, sym od, sym dn, sym df) q

      pub not_nearer : d <ᶠ f ≡ false → EndHeld held e (p + 2 * n) (path ++ room) (record { count = p; offset = offset })
      not_nearer q = as_was (held_is ∙ rw (test q))

      -- the roads added are in their places, before what stands behind them
      pub grown : d <ᶠ f ≡ true → {front : List ℕ} → front ≡ placed forward p (take (p + x.count) (path ++ room)) → (rest : List ℕ)
          → EndHeld held e (p + 2 * n) (front ++ rest) (record { count = p + x.count; offset = offset ⊕ x.metres })
      grown q {front} u rest =
          let whole : take (p + x.count) (path ++ room) ≡ path ++ added = rw (sym size) (take-append-add path room x.count) in
          let is : front ≡ joined forward path added = u ∙ rw (whole, sym size) (placed_is forward path added) in
          let long : length (joined forward path added) ≡ p + x.count = joined_size forward path added ∙ omega (arith, size, length-take-le x.count room (omega (arith, a.few))) in
          let below : Below e added = below_of added (drop x.count room) x.count (length-take-le x.count room (omega (arith, a.few))) (rw (take-append-drop x.count room) a.numbers) in
          rw (is, held_is, test q)
          (record {
            path = rw (sym long) (take-append_seam (joined forward path added) rest);
            offset = refl;
            some_road = omega arith;
            room = omega (arith, a.few);
            numbers = numbers_of (joined forward path added) rest (p + x.count) long (joined_below e forward path added (below_of path room₀ p size numbers) below);
          })
