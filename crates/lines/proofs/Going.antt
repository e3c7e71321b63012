-- The legs one after the other: what they leave, and what the definition comes to from the next one on.
use Rattle.std.proofs.Common.{◌≡◌, ℕ, ◌+◌, ◌*◌, ◌≤◌, ◌<◌, Bool, true, false, cond, eqb, List, [], ◌∷◌, ◌++◌, take, Ok, refl, sym, ap, ◌∙◌, arith, append-nil}
use Rattle.std.proofs.Math.Seq.{append_snoc}
use native.Mathlib.Nat.{mul-le-mul, add-mul}
use Rattle.std.specs.Float.Ieee.{Float}
use Rattle.model.specs.declared.Counts.{Counts}
use Rattle.model.specs.declared.error.DecodeError.{DecodeError}
use Rattle.model.specs.Numbers.{◌⊕◌}
use Rattle.model.specs.Lists.{fold, last, maybe}
use Rattle.model.specs.Sheet.{Sheet, sheet_of}
use Rattle.model.specs.Legs.{EdgeCoverage, PathResult, LegEnd}
use Rattle.model.specs.Decode.{FullPath, no_path_yet, roads_of, segment_of, extended, path_of_leg, Outcome, with_primary, after_leg}
use Rattle.model.specs.Decode as decode
use Rattle.full_path.specs.declared.Coverages.{Coverages}
use Rattle.full_path.specs.declared.Covering.TheVariants.{PerRoad, PerPass}
use Rattle.full_path.specs.Left.{unwritten, coverages_at, cover_with, cover_all}
use Rattle.full_path.proofs.Numbers.{append_numbers}
use Rattle.lines.specs.declared.SegmentInfo.{SegmentInfo}
use Rattle.lines.specs.declared.WrittenLeg.{WrittenLeg}
use Rattle.lines.specs.declared.FullPath as code
use Rattle.lines.specs.Legs.{leg_limits, refusal, leg_end_from, LegInRange, segment_as, road_numbers, LegWritten, PathStored, LegsWritten, line_outcome, point_along_line_outcome, no_leg_yet, extended_by}
use Rattle.lines.proofs.Ends.{refused_in_range}
use Rattle.lines.proofs.Sequence.{leg_from, from_leg, line_start, line_step, line_end, point_is}

-- ---- nothing before

nothing_before : (ns : List ℕ) → unwritten (last []) ns ≡ ns
unfolding unwritten last maybe
nothing_before [] = refl
nothing_before (x ∷ xs) = refl

one_by_one : (ks cs : List EdgeCoverage) → fold (cover_with PerPass) ks cs ≡ ks ++ cs
unfolding fold cover_with
one_by_one ks [] = sym (append-nil ks)
one_by_one ks (x ∷ cs) = one_by_one (ks ++ x ∷ []) cs ∙ append_snoc ks x cs

per_road : (ks cs : List EdgeCoverage) → fold (cover_with PerRoad) ks cs ≡ fold decode.cover ks cs
unfolding fold cover_with
per_road ks [] = refl
per_road ks (x ∷ cs) = per_road (decode.cover ks x) cs

no_coverages : (t : Sheet) (x : Coverages) → x.count ≡ 0 → coverages_at t x ≡ []
no_coverages t x none = rw none

-- ---- room

-- i rows of w entries, and one more
rows_more : (i w : ℕ) → (i + 1) * w ≡ i * w + w
rows_more i w = add-mul i 1 w ∙ omega arith

rows_fit : (i j w : ℕ) → i ≤ j → i * w ≤ j * w
rows_fit i j w h = mul-le-mul h (omega arith)

module _ (s : List ℕ) (c : Counts) (slots : ℕ) where
  abbrev t : Sheet
  t = sheet_of s c

  segment_is : (i : ℕ) (r : PathResult) (g : SegmentInfo) → segment_as g ≡ record { length_m = r.total_length; expected_m = (leg_limits (sheet_of s c) i).dnp; start_offset_m = r.start_offset_m; end_offset_m = r.end_offset_m } → segment_as g ≡ segment_of (leg_from s c i) r
  unfolding segment_of
  segment_is i r g e = e

  -- leg i is refused so, whatever would come next
  abbrev Refused : ℕ → DecodeError → Type 0
  Refused i e = (next : PathResult → Outcome) → after_leg i (leg_end_from (sheet_of s c) slots i) next ≡ refusal e

  -- ---- the one leg of a point along line

  module _ (two : c.p ≡ 2) (ids : List ℕ) (x : Coverages) (none : x.count ≡ 0) (ids₁ : List ℕ) (y : Coverages) where
    pub point_written : (w : WrittenLeg) → LegWritten (sheet_of s c) c slots 0 PerPass 0 ids x ids₁ y (Ok w)
        → LegsWritten (sheet_of s c) c (point_along_line_outcome (sheet_of s c) slots) ids₁ y (Ok record { written = w.written; total_length = w.segment.length_m; first = w.segment; last = w.segment })
    unfolding after_leg path_of_leg
    point_written w (r, is, walks) =
        let segment = segment_is 0 r w.segment walks.segment in (
          omega arith,
          (
            path_of_leg (leg_from s c 0) r,
            point_is s c slots two ∙ ap (λ (e : LegEnd). after_leg 0 e (λ r. with_primary c.p (path_of_leg (leg_from s c 0) r))) is,
            record {
              written = record { roads = ap (λ (n : ℕ). take n ids₁) {x = w.written} {y = 0 + w.written} (omega arith) ∙ walks.roads ∙ nothing_before (road_numbers (roads_of r)); total_length = ap (λ (g : decode.SegmentInfo). g.length_m) walks.segment; first = segment; last = segment };
              coverages = walks.coverages ∙ ap (λ (ks : List EdgeCoverage). cover_all PerPass ks r.coverages) (no_coverages t x none) ∙ one_by_one [] r.coverages;
              few_roads = rw two (let few = walks.few in omega arith);
              few_coverages = rw two (let most = walks.most in omega arith);
              below = walks.below;
            },
          ),
        )

  pub point_refused : c.p ≡ 2 → (e : DecodeError) → Refused 0 e → (point_along_line_outcome (sheet_of s c) slots ≡ refusal e) × LegInRange c e
  point_refused two e none = (point_is s c slots two ∙ none _, refused_in_range c 0 (omega arith) (leg_end_from (sheet_of s c) slots 0) e none)

  -- ---- the legs of a line

  -- before leg i: the path k of the legs so far, and the definition with it
  pub record SoFar (i : ℕ) (ids : List ℕ) (y : Coverages) (x : code.FullPath) : Type 0 where
    pub path : FullPath
    pub is : from_leg s c slots i path ≡ line_outcome (sheet_of s c) slots
    pub stored : PathStored (sheet_of s c) c.e (i * (c.n + 1)) path ids y x

  pub line_begins : (ids : List ℕ) (y : Coverages) → y.count ≡ 0 → SoFar 0 ids y no_leg_yet
  line_begins ids y none = record {
    path = no_path_yet;
    is = line_start s c slots;
    stored = record {
      written = record { roads = refl; total_length = refl; first = refl; last = refl };
      coverages = no_coverages t y none;
      few_roads = omega arith;
      few_coverages = omega arith;
      below = λ j h. absurd (omega arith);
    };
  }

  module _ {i : ℕ} {ids : List ℕ} {y : Coverages} {x : code.FullPath} (far : SoFar i ids y x) where
    module _ (h : i + 1 < c.p) (ids₁ : List ℕ) (z : Coverages) where
      first_is : (b : Bool) (r : PathResult) (g : SegmentInfo) → segment_as g ≡ segment_of (leg_from s c i) r → segment_as (cond b g x.first) ≡ cond b (segment_of (leg_from s c i) r) far.path.first_segment
      first_is true r g e = e
      first_is false r g e = far.stored.written.first

      pub line_goes_on : (w : WrittenLeg) → LegWritten (sheet_of s c) c slots i PerRoad x.written ids y ids₁ z (Ok w) → SoFar (i + 1) ids₁ z (extended_by i x w)
      unfolding after_leg extended segment_of
      line_goes_on w (r, is, walks) =
          let one = rows_more i (c.n + 1) in
          let path = far.path in
          let stored = far.stored in
          let segment = segment_is i r w.segment walks.segment in
          record {
            path = extended i path (leg_from s c i) r;
            is = ap (λ (e : LegEnd). after_leg i e (λ r. from_leg s c slots (i + 1) (extended i path (leg_from s c i) r))) (sym is) ∙ sym (line_step s c slots i path h) ∙ far.is;
            stored = record {
              written = record {
                roads =
                    walks.roads
                    ∙ ap (λ (ns : List ℕ). ns ++ unwritten (last ns) (road_numbers (roads_of r))) stored.written.roads
                    ∙ sym (append_numbers path.roads (roads_of r));
                total_length = ap (λ (m : Float). m ⊕ w.segment.length_m) stored.written.total_length ∙ ap (λ (g : decode.SegmentInfo). path.total_length ⊕ g.length_m) segment;
                first = first_is (eqb i 0) r w.segment segment;
                last = segment;
              };
              coverages = walks.coverages ∙ per_road (coverages_at t y) r.coverages ∙ ap (λ (ks : List EdgeCoverage). fold decode.cover ks r.coverages) stored.coverages;
              few_roads = (let a = stored.few_roads in let b = walks.few in omega arith);
              few_coverages = (let a = stored.few_coverages in let b = walks.most in omega arith);
              below = walks.below;
            };
          }

    pub line_refused : i + 1 < c.p → (e : DecodeError) → Refused i e → (line_outcome (sheet_of s c) slots ≡ refusal e) × LegInRange c e
    line_refused h e none = (sym far.is ∙ line_step s c slots i far.path h ∙ none _, refused_in_range c i (omega arith) (leg_end_from (sheet_of s c) slots i) e none)

    pub line_ends : 0 < c.p → i ≤ c.p → c.p ≤ i + 1 → LegsWritten (sheet_of s c) c (line_outcome (sheet_of s c) slots) ids y (Ok x)
    line_ends some h l =
        let all = rows_fit i c.p (c.n + 1) h in
        let stored = far.stored in (
          some,
          (
            far.path,
            sym far.is ∙ line_end s c slots i far.path l,
            record {
              written = stored.written;
              coverages = stored.coverages;
              few_roads = (let a = stored.few_roads in omega arith);
              few_coverages = (let a = stored.few_coverages in omega arith);
              below = stored.below;
            },
          ),
        )
