-- "Ends" and is_valid_node of "Leaves": forced ways, the walks at both ends, finalize_path. From here on a path is the list of its roads' numbers.
-- Every road of the sheet counts here: class limits do not apply.
use Rattle.std.specs.Prelude.{ℕ, zero, suc, ◌+◌, ◌*◌, Bool, true, false, ◌||◌, ◌&&◌, not, cond, List, [], ◌∷◌, ◌++◌, reverse, map, eqb, ltb, length, get_or, Float}
use Rattle.std.proofs.Math.Option.{Option, none, some}
use Rattle.model.specs.declared.Settings.{Settings}
use Rattle.model.specs.declared.Road.{Road}
use Rattle.model.specs.declared.Neighbour.{Neighbour}
use Rattle.model.specs.Numbers.{◌⊕◌, ◌⊖◌, ◌⊘◌, ◌<ᶠ◌, fmin, fmax, f0}
use Rattle.model.specs.Lists.{any, find, head, last, maybe, fold}
use Rattle.model.specs.Sheet.{Sheet, road_at, numbers, list_at}
use Rattle.model.specs.View.{max_valid_distance}
use Rattle.model.specs.Decode.{SegmentInfo, FullPath}

-- ---- is_valid_node: a walk over the roads by rising number

unfoldable pub grown : Bool → Neighbour → Neighbour
grown inward x = record { node = x.node; ins = cond inward (x.ins + 1) x.ins; outs = cond inward x.outs (x.outs + 1) }

-- one road more, in from v or out to it
unfoldable pub note : ℕ → Bool → List Neighbour → List Neighbour
note v inward [] = grown inward (record { node = v; ins = 0; outs = 0 }) ∷ []
note v inward (x ∷ xs) = cond (eqb x.node v) (grown inward x ∷ xs) (x ∷ note v inward xs)

-- a self-loop makes the node its own neighbour
unfoldable pub meet_road : ℕ → List Neighbour → Road → List Neighbour
meet_road n xs r = cond (eqb r.target n) (note r.source true xs) (cond (eqb r.source n) (note r.target false xs) xs)

unfoldable pub around : Sheet → ℕ → List Neighbour
around t n = fold (λ xs r. meet_road n xs (road_at t r)) [] (numbers t)

unfoldable pub ins_of : List Neighbour → ℕ
ins_of [] = 0
ins_of (x ∷ xs) = x.ins + ins_of xs

unfoldable pub outs_of : List Neighbour → ℕ
outs_of [] = 0
outs_of (x ∷ xs) = x.outs + outs_of xs

-- a second road one way, or the node itself
abbrev pub is_choice : ℕ → Neighbour → Bool
is_choice n x = ltb 1 x.ins || (ltb 1 x.outs || eqb x.node n)

-- two neighbours, ins equal to outs, at most one road each way to each, no self-loop
unfoldable pub passes_through : ℕ → List Neighbour → Bool
passes_through n xs = eqb (length xs) 2 && (eqb (ins_of xs) (outs_of xs) && not (any (is_choice n) xs))

unfoldable pub is_valid_node : Sheet → ℕ → Bool
is_valid_node t n = not (passes_through n (around t n))

-- ---- forced ways, by road number

-- the way on from the end of road r that is no U-turn
unfoldable pub way_on : Sheet → ℕ → Option ℕ
way_on t r = find (λ x. not (eqb (road_at t x).target (road_at t r).source)) (list_at t (road_at t r).target)

-- the way into its start
unfoldable pub way_back : Sheet → ℕ → Option ℕ
way_back t r = find (λ x. eqb (road_at t x).target (road_at t r).source && not (eqb (road_at t x).source (road_at t r).target)) (numbers t)

-- each of them, where the node gives no choice
unfoldable pub forced_continuation : Sheet → ℕ → Option ℕ
forced_continuation t r = cond (is_valid_node t (road_at t r).target) none (way_on t r)

unfoldable pub forced_predecessor : Sheet → ℕ → Option ℕ
forced_predecessor t r = cond (is_valid_node t (road_at t r).source) none (way_back t r)

unfoldable pub way : Sheet → Bool → ℕ → Option ℕ
way t forward r = cond forward (forced_continuation t r) (forced_predecessor t r)

-- ---- forward_extension and backward_extension

-- Roads added at an end, the nearest first, and their length.
pub record Walk : Type 0 where
  pub added : List ℕ
  pub added_m : Float

abbrev pub no_walk : Walk
no_walk = record { added = []; added_m = f0 }

abbrev pub with_road : Sheet → ℕ → Walk → Walk
with_road t x w = record { added = w.added ++ x ∷ []; added_m = w.added_m ⊕ (road_at t x).length_m }

unfoldable pub meets : ℕ → List ℕ → Bool
meets x rs = any (λ r. eqb r x) rs

unfoldable pub walked : Walk → Option Walk
walked w = cond (eqb (length w.added) 0) none (some w)

-- From road r along the forced ways to the first node without one. Dropped if it meets a road again or passes the cap.
-- The first argument bounds the turns. A node without a choice has at most two roads out, so 2 N + 1 turns are enough (crate bounds).
unfoldable pub walk : ℕ → Sheet → Bool → Float → List ℕ → ℕ → Walk → Option Walk
walk zero t forward cap path r w = none
walk (suc k) t forward cap path r w =
    maybe (way t forward r) (walked w) (λ x.
    cond (meets x (path ++ w.added)) none
    (cond (cap <ᶠ (with_road t x w).added_m) none
    (walk k t forward cap path x (with_road t x w))))

abbrev pub extension : Sheet → Bool → Float → List ℕ → ℕ → Option Walk
extension t forward cap path r = walk (suc (2 * t.nodes)) t forward cap path r no_walk

abbrev pub forward_extension : Sheet → Float → List ℕ → ℕ → Option Walk
forward_extension t cap path r = extension t true cap path r

abbrev pub backward_extension : Sheet → Float → List ℕ → ℕ → Option Walk
backward_extension t cap path r = extension t false cap path r

-- ---- finalize_path

-- snap_cap_m: 0 with snapping off, so roads of length 0 can still be added
unfoldable pub snap_cap_m : Settings → SegmentInfo → Float
snap_cap_m c g = cond c.snap_to_valid_nodes (fmax (fmin c.max_snap_extension_m (max_valid_distance c g.expected_m ⊖ g.length_m)) f0) f0

-- the walk is kept only if the point is strictly nearer the new end
abbrev pub lrp_prefers : List Float → ℕ → ℕ → Bool
lrp_prefers distances new old = get_or distances new f0 <ᶠ get_or distances old f0

-- A path and the offset at the end that is looked at.
pub record PathEnd : Type 0 where
  pub path : List ℕ
  pub offset : Float

unfoldable pub at_end : Sheet → Float → PathEnd → PathEnd
at_end t cap e =
    maybe (last e.path) e (λ r.
    maybe (forward_extension t cap e.path r) e (λ w.
    maybe (last w.added) e (λ x.
    cond (lrp_prefers t.from_last (road_at t x).target (road_at t r).target)
    (record { path = e.path ++ w.added; offset = e.offset ⊕ w.added_m })
    e)))

unfoldable pub at_start : Sheet → Float → PathEnd → PathEnd
at_start t cap e =
    maybe (head e.path) e (λ r.
    maybe (backward_extension t cap e.path r) e (λ w.
    maybe (last w.added) e (λ x.
    cond (lrp_prefers t.from_first (road_at t x).source (road_at t r).source)
    (record { path = reverse w.added ++ e.path; offset = e.offset ⊕ w.added_m })
    e)))

-- The whole path and its offsets in metres: those of the projections, the reference's own are not on the sheet.
pub record FinalPath : Type 0 where
  pub path : List ℕ
  pub start_offset : Float
  pub end_offset : Float

abbrev pub final_path_of : FullPath → FinalPath
final_path_of k = record { path = map (λ (r : Road). r.number) k.roads; start_offset = k.first_segment.start_offset_m; end_offset = k.last_segment.end_offset_m }

-- forward comes before backward
unfoldable pub extend_ends : Sheet → Float → Float → FinalPath → FinalPath
extend_ends t start_cap end_cap p =
    let f = at_end t end_cap (record { path = p.path; offset = p.end_offset }) in
    let b = at_start t start_cap (record { path = f.path; offset = p.start_offset }) in
    record { path = b.path; start_offset = b.offset; end_offset = f.offset }

unfoldable pub finalize_path : Sheet → FullPath → FinalPath
finalize_path t k = extend_ends t (snap_cap_m t.settings k.first_segment) (snap_cap_m t.settings k.last_segment) (final_path_of k)

-- an offset as a fraction of its road's length: not held to 0 to 1, and +infinity can come out
unfoldable pub part_of : Float → Float → Float
part_of offset metres = cond (f0 <ᶠ metres) (offset ⊘ metres) f0

unfoldable pub offset_fraction : Sheet → Float → Option ℕ → Float
offset_fraction t offset r = maybe r f0 (λ x. part_of offset (road_at t x).length_m)
