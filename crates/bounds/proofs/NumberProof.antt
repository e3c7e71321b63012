-- No f64 of an answer is a NaN or -0: lengths, offsets and coverages are sums and products of road lengths and parts of 0 to 1.
use Prim.Native.Nat.{ℕ, ◌<◌}
use mathlib.Core.Path.{◌≡◌, refl, subst}
use mathlib.Core.Bool.{Bool, true, false, ◌&&◌, not, cond}
use mathlib.Core.Option.{Option, none, some}
use mathlib.Core.List.Memᴰ
use mathlib.Core.List.{List, [], ◌∷◌, ◌++◌, map}
use native.Mathlib.Omega.{arith}
use lib.Dec.{T, eqb}
use lib.ListN.{length}
use lib.Ieee.{Float, binary64, add, sub}
use lib.Ieee.Fits.{and_l}
use Rattle.model.specs.declared.Road.{Road}
use Rattle.model.specs.Candidates.{Candidate}
use Rattle.model.specs.declared.Limits.{Limits}
use Rattle.model.specs.Judge.{Fine}
use Rattle.model.specs.Numbers.{f0, f1, ◌<ᶠ◌, ◌≤ᶠ◌, ◌⊘◌}
use Rattle.model.specs.Lists.{In, head, last, maybe}
use Rattle.model.specs.Judge.{judged}
use Rattle.model.specs.Sheet.{Sheet, road_at, parsed}
use Rattle.model.specs.View.{view}
use Rattle.model.specs.Search.{bounded_astar}
use Rattle.model.specs.Legs.{EdgeCoverage, PathResult, Pair, fraction_between, effective_min, effective_max, same_edge_length, fits_same_edge, start_offset, end_offset, same_edge_path, start_part, end_part, path_cost, stays, terminal, whole, path_over}
use Rattle.model.specs.Decode.{SegmentInfo, FullPath, roads_of, segment_of, same_number, cover, extended, path_of_leg, Outcome, refused, matched, outcome}
use Rattle.model.specs.Ends.{finalize_path, part_of, offset_fraction}
use Rattle.model.specs.Call.{Lists, Lent, Match, Decoded, written, match_of, answered, has_room, untouched}
use Rattle.model.specs.Call as call
use Rattle.model.proofs.Members.{fold_holds, Every, every_none, every_cons, every_append, every_map, every_pad, here, either, in_getD, in_head, in_last}
use Rattle.bounds.specs.Amounts.{Amount, Finite}
use Rattle.bounds.specs.Formed.{Formed}
use Rattle.bounds.specs.Theorems.{AnswerNumbers, NumberTheorem}
use Rattle.bounds.proofs.Rank.{add_amount}
use Rattle.bounds.proofs.AmountLaws.{finite_amount, zero_finite, zero_amount, mul_amount, div_amount, rest_finite, gap_finite}
use Rattle.bounds.proofs.FormedProof.{formed}
use Rattle.bounds.proofs.EndBound.{ends_numbers, ends_amounts}
use Rattle.bounds.proofs.Lines.{Kept, Met}
use Rattle.bounds.proofs.PathLaws.{InSheet, sheet_roads, CandidateFacts, MiddleFacts, RouteLaw, append_every, path_law}
use Rattle.bounds.proofs.ListProof.{decode_law}

-- ---- what paths and full paths hold

-- An amount of a road of the sheet.
record Covers (t : Sheet) (c : EdgeCoverage) : Type 0 where
  road : In c.road t.roads
  coverage_m : Amount c.coverage_m

record RouteNumbers (t : Sheet) (r : PathResult) : Type 0 where
  coverages : Every (Covers t) r.coverages
  total_length : Amount r.total_length
  start_offset_m : Amount r.start_offset_m
  end_offset_m : Amount r.end_offset_m

-- The full path k after n legs.
record PathNumbers (t : Sheet) (n : ℕ) (k : FullPath) : Type 0 where
  roads : Every (InSheet t) k.roads
  total_length : Amount k.total_length
  coverages : Every (Covers t) k.coverages
  start_offset_m : Amount k.first_segment.start_offset_m
  end_offset_m : Amount k.last_segment.end_offset_m

-- ---- paths

module _ (t : Sheet) (wf : Formed t) where
  -- what lies before a candidate on its road, and behind it
  before : (c : Candidate) → CandidateFacts t (InSheet t) c → Amount (start_offset c)
  before c f = mul_amount c.road.length_m c.projection_fraction (wf.roads c.road f.road).length_m f.projection_fraction.finite

  behind : (c : Candidate) → CandidateFacts t (InSheet t) c → Amount (end_offset c)
  behind c f = mul_amount c.road.length_m (sub binary64 f1 c.projection_fraction) (wf.roads c.road f.road).length_m (rest_finite c.projection_fraction f.projection_fraction)

  same_edge_numbers : (b : Limits) (p : Pair) → CandidateFacts t (InSheet t) p.start → CandidateFacts t (InSheet t) p.end → T (fits_same_edge b p) → RouteNumbers t (same_edge_path p)
  unfolding fits_same_edge same_edge_length same_edge_path
  same_edge_numbers b p x y h =
      let rising = not (fraction_between p ≤ᶠ f0) in
      let long = not (same_edge_length p <ᶠ effective_min b p) in
      let short = not (effective_max b p <ᶠ same_edge_length p) in
      let metres = (wf.roads p.start.road x.road).length_m in
      let total = mul_amount p.start.road.length_m (fraction_between p) metres (gap_finite p.start.projection_fraction p.end.projection_fraction x.projection_fraction y.projection_fraction (and_l rising long (and_l (rising && long) short h))) in
      record {
        coverages = every_cons (Covers t) record { road = x.road; coverage_m = total } (every_none (Covers t));
        total_length = total;
        start_offset_m = before p.start x;
        end_offset_m = mul_amount p.start.road.length_m (sub binary64 f1 p.end.projection_fraction) metres (rest_finite p.end.projection_fraction y.projection_fraction);
      }

  terminal_covers : (b : Bool) (r : Road) (part : Float) → In r t.roads → Amount part → Every (Covers t) (terminal b r part)
  unfolding terminal
  terminal_covers true r part h k = every_cons (Covers t) record { road = h; coverage_m = k } (every_none (Covers t))
  terminal_covers false r part h k = every_none (Covers t)

  whole_covers : (r : Road) → In r t.roads → Covers t (whole r)
  unfolding whole
  whole_covers r h = record { road = h; coverage_m = finite_amount r.length_m (wf.roads r h).length_m }

  over_numbers : (p : Pair) → CandidateFacts t (InSheet t) p.start → CandidateFacts t (InSheet t) p.end → (cost : Float) (middle : List Road) → MiddleFacts t (InSheet t) cost middle → RouteNumbers t (path_over p (path_cost p cost) middle)
  unfolding path_cost path_over
  over_numbers p x y cost middle f =
      let total = path_cost p cost in
      let a = stays (start_part p) total in
      let b = stays (end_part p) total in
      let first = terminal a p.start.road (start_part p) in
      record {
        coverages =
            every_append (Covers t) (first ++ map whole middle)
            (every_append (Covers t) first (terminal_covers a p.start.road (start_part p) x.road (behind p.start x)) (every_map (Covers t) whole middle (λ r m. whole_covers r (f.roads r m))))
            (terminal_covers b p.end.road (end_part p) y.road (before p.end y));
        total_length = add_amount (add binary64 (start_part p) cost) (end_part p) (add_amount (start_part p) cost (behind p.start x) f.cost) (before p.end y);
        start_offset_m = either Amount a (before p.start x) zero_amount;
        end_offset_m = either Amount b (behind p.end y) zero_amount;
      }

  routes_numbers : RouteLaw t (InSheet t) (RouteNumbers t)
  routes_numbers = record { same_edge = same_edge_numbers; over = over_numbers }

-- ---- full paths

cover_every : (t : Sheet) (xs : List EdgeCoverage) (c : EdgeCoverage) → Covers t c → Every (Covers t) xs → Every (Covers t) (cover xs c)
unfolding cover
cover_every t [] c h k = every_cons (Covers t) h k
cover_every t (x ∷ xs) c h k =
    let first = k x here in
    let rest : Every (Covers t) xs = λ y m. k y (Memᴰ.tail m) in
    either (Every (Covers t)) (same_number x.road c.road)
    (every_cons (Covers t) record { road = first.road; coverage_m = add_amount x.coverage_m c.coverage_m first.coverage_m h.coverage_m } rest)
    (every_cons (Covers t) first (cover_every t xs c h rest))

route_roads : (t : Sheet) (r : PathResult) → Every (Covers t) r.coverages → Every (InSheet t) (roads_of r)
route_roads t r h = every_map (InSheet t) (λ (c : EdgeCoverage). c.road) r.coverages (λ c m. (h c m).road)

legs_numbers : (t : Sheet) → Kept (RouteNumbers t) (PathNumbers t)
unfolding extended path_of_leg segment_of
legs_numbers t = record {
  begins = record { roads = every_none (InSheet t); total_length = zero_amount; coverages = every_none (Covers t); start_offset_m = zero_amount; end_offset_m = zero_amount };
  extends = λ i k leg r h f. record {
    roads = append_every (InSheet t) k.roads (roads_of r) h.roads (route_roads t r f.coverages);
    total_length = add_amount k.total_length r.total_length h.total_length f.total_length;
    coverages = fold_holds (Every (Covers t)) cover k.coverages r.coverages h.coverages (λ c m xs g. cover_every t xs c (f.coverages c m) g);
    start_offset_m = either (λ (g : SegmentInfo). Amount g.start_offset_m) (eqb i 0) f.start_offset_m h.start_offset_m;
    end_offset_m = f.end_offset_m;
  };
  same_edge = λ leg r f. record { roads = route_roads t r f.coverages; total_length = f.total_length; coverages = f.coverages; start_offset_m = f.start_offset_m; end_offset_m = f.end_offset_m };
}

-- ---- the answer

part_amount : (offset metres : Float) → Amount offset → Finite metres → Amount (part_of offset metres)
unfolding part_of
part_amount offset metres h k = go (f0 <ᶠ metres) (λ m. m)
  where
    go : (b : Bool) → (T b → T (f0 <ᶠ metres)) → Amount (cond b (offset ⊘ metres) f0)
    go true m = div_amount offset metres h k (m tt)
    go false m = zero_amount

module _ (t : Sheet) (wf : Formed t) (path : List ℕ) (numbers : (x : ℕ) → In x path → x < length t.roads) where
  path_metres : (x : ℕ) → In x path → Finite (road_at t x).length_m
  path_metres x m = (wf.roads (road_at t x) (in_getD t.roads x _ (numbers x m))).length_m

  fraction_amount : (offset : Float) → Amount offset → (o : Option ℕ) → ((x : ℕ) → o ≡ some x → In x path) → Amount (offset_fraction t offset o)
  unfolding offset_fraction maybe
  fraction_amount offset h none m = zero_amount
  fraction_amount offset h (some x) m = part_amount offset (road_at t x).length_m h (path_metres x (m x refl))

  written_lengths : (l : Lists) → Every Finite (written t path l).lengths
  unfolding written
  written_lengths l = every_pad Finite (length l.lengths) f0 (map (λ r. (road_at t r).length_m) path) zero_finite (every_map Finite (λ r. (road_at t r).length_m) path path_metres)

match_numbers : (t : Sheet) → Formed t → (k : FullPath) (c : EdgeCoverage) (l : Lists) → Met (PathNumbers t) (length t.points) k c → AnswerNumbers (match_of t k c (finalize_path t k)) (written t (finalize_path t k).path l).lengths
unfolding match_of
match_numbers t wf k c l m =
    let e = finalize_path t k in
    let h = m.holds in
    let offsets = ends_amounts t wf k h.start_offset_m h.end_offset_m in
    let numbers = ends_numbers t wf k h.roads in
    record {
      length_m = h.total_length;
      start_offset = offsets.0;
      start_fraction = fraction_amount t wf e.path numbers e.start_offset offsets.0 (head e.path) (in_head e.path);
      end_offset = offsets.1;
      end_fraction = fraction_amount t wf e.path numbers e.end_offset offsets.1 (last e.path) (in_last e.path);
      coverage = (h.coverages c m.primary).coverage_m;
      lengths = written_lengths t wf e.path numbers l;
    }

-- a refusal is no match
no_match : (number a b : ℕ) (m : Match) → call.refused number a b ≡ call.matched m → ⊥
no_match number a b m e = let z : ◌≡◌ {A = ℕ} 0 1 = cc in omega arith

same_match : (m n : Match) → call.matched m ≡ call.matched n → m ≡ n
same_match m n e = cc

pub number_theorem : NumberTheorem
unfolding untouched answered
number_theorem s lent = decode_law Right s lent (λ number at m e. absurd (no_match number at 0 m e)) write
  where
    t : Sheet
    t = parsed s

    l : Lists
    l = lent.lists

    Right : Decoded → Type 0
    Right d = (m : Match) → d.answer ≡ call.matched m → AnswerNumbers m d.lists.lengths

    write : judged s ≡ Fine → has_room (length t.points) t.nodes lent ≡ true → (o : Outcome) → outcome (view t) (bounded_astar lent.heap) ≡ o → Right (answered t l o)
    write fine h (refused n x y) e m f = absurd (no_match n x y m f)
    write fine h (matched k c) e m f =
        let wf = formed s fine in
        subst (λ (x : Match). AnswerNumbers x (written t (finalize_path t k).path l).lengths) (same_match (match_of t k c (finalize_path t k)) m f)
        (match_numbers t wf k c l (path_law t wf (InSheet t) (sheet_roads t wf) lent.heap (RouteNumbers t) (routes_numbers t wf) (PathNumbers t) (legs_numbers t) k c e))
