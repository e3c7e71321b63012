-- The walk back over came_from is the definition's trace and ends where one more step changes nothing there; its roads come one by one from the last to the first.
use Prim.Native.Nat.{ℕ, zero, suc, ◌+◌, ◌-◌, ◌≤◌, ◌<◌}
use mathlib.Core.Path.{◌≡◌, refl, sym, ap, ◌∙◌, subst}
use mathlib.Core.Logic.{inl, inr, ◌≢◌}
use mathlib.Core.Option.{Option, none, some}
use mathlib.Core.List.{List, [], ◌∷◌, ◌++◌, map}
use native.Mathlib.Omega.{arith}
use lib.ListN.{length, get_or, set, take, drop, length-append, length-map}
use lib.Seq.{length-take-le, take-suc, append_snoc, set_at}
use lib.Ieee.{Float, nan}
use Rattle.model.specs.declared.Road.{Road}
use Rattle.model.specs.Layout.{most_roads}
use Rattle.model.specs.Search.{found, Label, label_at, real_of, came_from, trace}
use Rattle.bounds.proofs.Choices.{below_or_not}
use Rattle.bounds.proofs.Traces.{trace_ends, trace_goes}
use Rattle.search.specs.declared.SearchEnd.TheVariants as S
use Rattle.search.specs.Areas.{unreached, labels_of, MarkOrRoad, EndsWithin, back_way, LeadsBack}
use Rattle.search.specs.Answers.{told}
use Rattle.search.proofs.Labels.{label_is, real_reached, came_road, came_start, came_unreached}

-- i roads were walked over, and the trace from the node whose mark is k has those in front
pub record Walking (n e : ℕ) (roads : ℕ → Road) (came : List ℕ) (goal : ℕ) (i k : ℕ) : Type 0 where
  pub node : ℕ
  pub inside : node < n
  pub mark : k ≡ get_or came node 0
  pub to : i ≤ n - 1
  pub ends : EndsWithin roads e came (n - 1 - i) node
  pub walked : List ℕ
  pub leads : (j : ℕ) → LeadsBack roads e came j node → LeadsBack roads e came (i + j) goal
  pub all : (j : ℕ) → back_way roads came (i + j) goal ≡ back_way roads came j node ++ walked
  pub same : (real penalised : List Float) → trace (n - 1 - i) (labels_of roads n real penalised came) node (map roads walked) ≡ trace (n - 1) (labels_of roads n real penalised came) goal []

-- as many as are asked for
pub back_size : (roads : ℕ → Road) (came : List ℕ) (k v : ℕ) → length (back_way roads came k v) ≡ k
unfolding back_way
back_size roads came zero v = refl
back_size roads came (suc k) v = omega (arith, length-append (back_way roads came k (roads (get_or came v 0)).source) (get_or came v 0 ∷ []), back_size roads came k (roads (get_or came v 0)).source)

-- `few`: no mark is the number of a road. `within`: roads leave nodes.
module _ (n e : ℕ) (roads : ℕ → Road) (came : List ℕ) (few : e ≤ most_roads) (marks : (v : ℕ) → v < n → MarkOrRoad e (get_or came v 0)) (within : (k : ℕ) → k < e → (roads k).source < n) where
  -- ---- one step

  module _ (real penalised : List Float) where
    abbrev ls : List (Option Label)
    ls = labels_of roads n real penalised came

    came_by_road : (v : ℕ) → v < n → get_or came v 0 < e → came_from (label_at ls v) ≡ some (roads (get_or came v 0))
    came_by_road v h k = ap came_from (label_is roads n real penalised came v h) ∙ came_road roads _ _ (get_or came v 0) (λ z. omega arith) (λ z. omega arith)

    came_by_none : (v : ℕ) → v < n → e ≤ get_or came v 0 → came_from (label_at ls v) ≡ none
    came_by_none v h k = ap came_from (label_is roads n real penalised came v h) ∙ elim (marks v h) [
      | inl p ↦ came_unreached roads _ _ (get_or came v 0) p
      | inr (inl p) ↦ came_start roads _ _ (get_or came v 0) p
      | inr (inr p) ↦ absurd (omega arith)
    ]

    -- where one more step changes nothing, there are no more roads back
    pub ends_there : (j v : ℕ) (path : List Road) → v < n → trace (suc j) ls v path ≡ trace j ls v path → EndsWithin roads e came j v
    unfolding trace
    ends_there zero v path h same = elim (below_or_not (get_or came v 0) e) [
      | inl p ↦ absurd (omega (arith, ap length (sym (trace_goes ls v path 0 (roads (get_or came v 0)) (came_by_road v h p)) ∙ same)))
      | inr p ↦ p
    ]
    ends_there (suc j) v path h same = λ p.
        let r = roads (get_or came v 0) in
        let by = came_by_road v h p in
        ends_there j r.source (r ∷ path) (within (get_or came v 0) p) (sym (trace_goes ls v path (suc j) r by) ∙ same ∙ trace_goes ls v path j r by)

  -- ---- the loop

  module _ {goal i k : ℕ} (w : Walking n e roads came goal i k) where
    -- all roads back were walked over
    pub walk_leads : LeadsBack roads e came i goal
    unfolding LeadsBack
    walk_leads = subst (λ (m : ℕ). LeadsBack roads e came m goal) {x = i + 0} {y = i} (omega arith) (w.leads 0 tt)

    pub walk_end : e ≤ k → (real penalised : List Float) → map roads (back_way roads came i goal) ≡ trace (n - 1) (labels_of roads n real penalised came) goal []
    unfolding back_way
    walk_end h real penalised =
        ap (map roads) (ap (λ (m : ℕ). back_way roads came m goal) {x = i} {y = i + 0} (omega arith) ∙ w.all 0)
        ∙ sym (trace_ends (labels_of roads n real penalised came) w.node _ (n - 1 - i) (came_by_none real penalised w.node w.inside (omega (arith, w.mark))))
        ∙ w.same real penalised

    module _ (h : k < e) where
      -- a road back is left only where fewer were taken
      pub walk_room : i < n - 1
      walk_room = go (n - 1 - i) refl w.ends
        where
          go : (j : ℕ) → n - 1 - i ≡ j → EndsWithin roads e came j w.node → i < n - 1
          go zero is ends = absurd (omega (arith, w.mark))
          go (suc j) is ends = omega arith

      pub walk_step : {v : ℕ} → v ≡ (roads k).source → Walking n e roads came goal (i + 1) (get_or came v 0)
      unfolding back_way LeadsBack
      walk_step {v} is =
          let node = w.node in
          let j = n - 1 - (i + 1) in
          let more : n - 1 - i ≡ suc j = omega (arith, walk_room) in
          let below : get_or came node 0 < e = omega (arith, w.mark) in
          let by : roads (get_or came node 0) ≡ roads k = ap roads (sym w.mark) in
          let there : (roads (get_or came node 0)).source ≡ v = ap (λ (r : Road). r.source) by ∙ sym is in
          record {
            node = v;
            inside = subst (λ (u : ℕ). u < n) (sym is) (within k h);
            mark = refl;
            to = omega (arith, walk_room);
            ends = subst (λ (u : ℕ). EndsWithin roads e came j u) there (subst (λ (m : ℕ). EndsWithin roads e came m node) more w.ends below);
            walked = get_or came node 0 ∷ w.walked;
            leads = λ m l. subst (λ (x : ℕ). LeadsBack roads e came x goal) {x = i + suc m} {y = i + 1 + m} (omega arith) (w.leads (suc m) (below, subst (λ (u : ℕ). LeadsBack roads e came m u) (sym there) l));
            all = λ m.
                ap (λ (x : ℕ). back_way roads came x goal) {x = i + 1 + m} {y = i + suc m} (omega arith)
                ∙ w.all (suc m)
                ∙ append_snoc (back_way roads came m (roads (get_or came node 0)).source) (get_or came node 0) w.walked
                ∙ ap (λ (u : ℕ). back_way roads came m u ++ get_or came node 0 ∷ w.walked) there;
            same = λ real penalised.
                let labels = labels_of roads n real penalised came in
                let path = map roads w.walked in
                ap (λ (u : ℕ). trace j labels u (roads (get_or came node 0) ∷ path)) (sym there)
                ∙ sym (trace_goes labels node path j (roads (get_or came node 0)) (came_by_road real penalised node w.inside below))
                ∙ ap (λ (m : ℕ). trace m labels node path) (sym more)
                ∙ w.same real penalised;
          }

-- ---- the roads back, one after the other

-- i of n roads are left, back from the node v; the others were walked over
pub record Backed (e : ℕ) (roads : ℕ → Road) (came : List ℕ) (nodes goal n : ℕ) (walked : List ℕ) (i v : ℕ) : Type 0 where
  pub inside : v < nodes
  pub fewer : i ≤ n
  pub leads : LeadsBack roads e came i v
  pub all : back_way roads came n goal ≡ back_way roads came i v ++ walked

module _ (e : ℕ) (roads : ℕ → Road) (came : List ℕ) (nodes goal n : ℕ) where
  module _ {walked : List ℕ} {i v : ℕ} (w : Backed e roads came nodes goal n walked i v) where
    pub back_mark : 0 < i → get_or came v 0 < e
    unfolding LeadsBack
    back_mark h = go i h w.leads
      where
        go : (j : ℕ) → 0 < j → LeadsBack roads e came j v → get_or came v 0 < e
        go zero p l = absurd (omega arith)
        go (suc j) p l = l.0

    pub back_step : {j u : ℕ} → i ≡ suc j → u ≡ (roads (get_or came v 0)).source → u < nodes → Backed e roads came nodes goal n (get_or came v 0 ∷ walked) j u
    unfolding LeadsBack back_way
    back_step {j} more is below =
        let k = get_or came v 0 in
        let leads = rw more at w.leads in
        let all = rw more at w.all in
        record {
          inside = below;
          fewer = omega (arith, w.fewer);
          leads = rw is leads.1;
          all = all ∙ append_snoc (back_way roads came j (roads k).source) k walked ∙ rw is;
        }

    pub back_end : i ≡ 0 → back_way roads came n goal ≡ walked
    unfolding back_way
    back_end z = w.all ∙ ap (λ (x : ℕ). back_way roads came x v ++ walked) z

-- those walked over stand in `out` from place i on
module _ (out₀ walked out : List ℕ) (n i : ℕ) (fewer : i ≤ n) (room : n ≤ length out₀) (is : out ≡ take i out₀ ++ (walked ++ drop n out₀)) where
  pub out_end : {all : List ℕ} → i ≡ 0 → all ≡ walked → out ≡ all ++ drop n out₀
  out_end z same = is ∙ ap (λ (m : ℕ). take m out₀ ++ (walked ++ drop n out₀)) z ∙ ap (λ (xs : List ℕ). xs ++ drop n out₀) (sym same)

  pub out_step : (k : ℕ) → 0 < i → set out (i - 1) k ≡ take (i - 1) out₀ ++ (k ∷ walked ++ drop n out₀)
  out_step k h =
      let j = i - 1 in
      let more : i ≡ suc j = omega arith in
      let rest = walked ++ drop n out₀ in
      ap (λ (xs : List ℕ). set xs j k) (is ∙ ap (λ (m : ℕ). take m out₀ ++ rest) more ∙ ap (λ (xs : List ℕ). xs ++ rest) (take-suc out₀ j 0 (omega arith)) ∙ append_snoc (take j out₀) (get_or out₀ j 0) rest)
      ∙ set_at (take j out₀) (get_or out₀ j 0) rest k j (length-take-le j out₀ (omega arith))

-- ---- the answer

-- it is told with its cost and the number of its roads
pub found_told : (roads : ℕ → Road) (n : ℕ) (real penalised : List Float) (came : List ℕ) (goal k : ℕ) {way : List Road} → goal < n → get_or came goal 0 ≢ unreached → map roads (back_way roads came k goal) ≡ way
    → S.Found (get_or real goal nan) k ≡ told (found (real_of (label_at (labels_of roads n real penalised came) goal)) way)
unfolding told
found_told roads n real penalised came goal k {way} inside reached is =
    let cost : real_of (label_at (labels_of roads n real penalised came) goal) ≡ get_or real goal nan =
    ap real_of (label_is roads n real penalised came goal inside) ∙ real_reached roads (get_or real goal nan) (get_or penalised goal nan) (get_or came goal 0) reached in
    let size : length way ≡ k = sym (ap length is) ∙ length-map (back_way roads came k goal) roads ∙ back_size roads came k goal in
    λ i. S.Found (sym cost i) (sym size i)
