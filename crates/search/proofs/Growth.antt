-- A node gets a label and an entry, and a search begins: the areas stand for the definition's next state, and stay proper.
use Prim.Native.Nat.{ℕ, ◌+◌, ◌≤◌, ◌<◌}
use mathlib.Core.Path.{◌≡◌, refl, sym, ap, ◌∙◌}
use mathlib.Core.Logic.{inl, inr, ◌≢◌}
use mathlib.Core.Option.{none, some}
use mathlib.Core.List.Memᴰ
use mathlib.Core.List.{List, [], ◌∷◌, ◌++◌}
use native.Mathlib.Omega.{arith}
use lib.ListN.{length, get_or, set, replicate, length-set, length-replicate, get_or-replicate}
use lib.Seq.{get_or-set_same, get_or-set_other}
use lib.Ieee.{Float}
use Rattle.model.specs.declared.Road.{Road}
use Rattle.model.specs.Numbers.{f0, ◌⊕◌}
use Rattle.model.specs.Lists.{tabulate}
use Rattle.model.specs.Heap.{sift_up, push}
use Rattle.model.specs.Search.{Query, Entry, State, f_score_of, entered, begun}
use Rattle.bounds.proofs.Choices.{same_or_other}
use Rattle.bounds.proofs.HeapLaws.{length_push}
use Rattle.bounds.proofs.Turns.{entered_some, entered_none}
use Rattle.heap.specs.Keys.{key_in}
use Rattle.std.specs.Prelude.{None}
use Rattle.sheet.specs.declared.Sheet.{Sheet}
use Rattle.search.specs.declared.areas.Label.{Label}
use Rattle.search.specs.declared.areas.SearchAreas.{SearchAreas}
use Rattle.search.specs.Areas.{unreached, label_of, labels_of, label_as, mark_of, CameByRoad, entries_of, Columns, columns, state_of, grown, Sized, MarkOrRoad, Reached, Proper, AreasKept}
use Rattle.search.proofs.Tables.{table_alike}
use Rattle.search.proofs.Labels.{marked_none, label_left, mark_reaches, labels_set}
use Rattle.search.proofs.Entries.{entry_count, entries_more, heap_push, push_below}

-- ---- from areas to areas

pub kept_on : {n e slots : ℕ} {a b d : Columns} → AreasKept n e slots a b → AreasKept n e slots b d → AreasKept n e slots a d
kept_on f g = record { proper = g.proper; gone = omega (arith, f.gone, g.gone); reached = λ v h. g.reached v (f.reached v h) }

pub kept_same : {n e slots : ℕ} {a : Columns} → Proper n e slots a → AreasKept n e slots a a
kept_same ok = record { proper = ok; gone = omega arith; reached = λ v h. h }

-- one sheet has one number of nodes
pub same_nodes : {a b : Sheet} → a ≡ b → a.counts.n ≡ b.counts.n
same_nodes is = ap (λ (t : Sheet). t.counts.n) is

-- the lent areas have room
pub sized : (a : SearchAreas) → Sized a.sheet.counts.n a.slots (columns a)
sized a = record {
  real = omega (arith, a.labels.0);
  penalised = omega (arith, a.labels.1);
  came = omega (arith, a.labels.2);
  f_score = omega (arith, a.entries.0);
  g_score = omega (arith, a.entries.1);
  node = omega (arith, a.entries.2);
}

-- ---- one label and one entry more

module _ {n e slots : ℕ} {a : Columns} (ok : Proper n e slots a) where
  pub grown_full : slots ≤ a.made → (roads : ℕ → Road) (q : Query) (v : ℕ) (l : Label) → none ≡ entered slots q (state_of roads n a) v (label_as roads l)
  grown_full h roads q v l = sym (entered_none slots q (state_of roads n a) v (label_as roads l) (omega (arith, entry_count a.f_score a.g_score a.node a.made)))

  module _ (spare : a.made < slots) {v : ℕ} (inside : v < n) (l : Label) (by : CameByRoad e l.came_from) (f : Float) where
    abbrev b : Columns
    b = grown a v l f

    -- ---- the state

    module _ (roads : ℕ → Road) where
      abbrev made : List Entry
      made = entries_of a.f_score a.g_score a.node a.made ++ record { f_score = f; g_score = l.penalised; node = v } ∷ []

      pub grown_labels : labels_of roads n b.real b.penalised b.came ≡ set (labels_of roads n a.real a.penalised a.came) v (some (label_as roads l))
      grown_labels = labels_set roads n a.real a.penalised a.came v l.real l.penalised (mark_of l.came_from) inside ok.sized.real ok.sized.penalised ok.sized.came ∙ rw (label_left roads l e by)

      pub grown_entries : entries_of b.f_score b.g_score b.node b.made ≡ made
      grown_entries = entries_more a.f_score a.g_score a.node a.made f l.penalised v (omega (arith, ok.sized.f_score)) (omega (arith, ok.sized.g_score)) (omega (arith, ok.sized.node))

      grown_heap : b.heap ≡ push (f_score_of made) a.heap (length (entries_of a.f_score a.g_score a.node a.made))
      grown_heap =
          heap_push b.f_score b.g_score b.node b.made a.heap a.made refl ok.numbers
          ∙ ap (λ (es : List Entry). push (f_score_of es) a.heap a.made) grown_entries
          ∙ ap (λ (m : ℕ). push (f_score_of made) a.heap m) (sym (entry_count a.f_score a.g_score a.node a.made))

      pub grown_state : (q : Query) → f ≡ l.penalised ⊕ q.heuristic v → some (state_of roads n b) ≡ entered slots q (state_of roads n a) v (label_as roads l)
      grown_state q is =
          (λ i. some record { labels = grown_labels i; made = grown_entries i; heap = grown_heap i })
          ∙ rw is (sym (entered_some slots q (state_of roads n a) v (label_as roads l) (omega (arith, entry_count a.f_score a.g_score a.node a.made))))

    -- ---- the areas

    mark_there : get_or b.came v 0 ≡ mark_of l.came_from
    mark_there = get_or-set_same a.came v (mark_of l.came_from) 0 (omega (arith, ok.sized.came))

    mark_elsewhere : (u : ℕ) → u ≢ v → get_or b.came u 0 ≡ get_or a.came u 0
    mark_elsewhere u h = get_or-set_other a.came v u (mark_of l.came_from) 0 h

    now_reached : Reached b v
    now_reached z = (mark_reaches e l.came_from by).0 (sym mark_there ∙ z)

    still_reached : (u : ℕ) → Reached a u → Reached b u
    still_reached u h = elim (same_or_other u v) [ inl p ↦ rw p now_reached | inr p ↦ λ z. h (sym (mark_elsewhere u p) ∙ z) ]

    marks : (u : ℕ) → u < n → MarkOrRoad e (get_or b.came u 0)
    marks u h = elim (same_or_other u v) [ inl p ↦ rw (p, mark_there) (mark_reaches e l.came_from by).1 | inr p ↦ rw (mark_elsewhere u p) (ok.marks u h) ]

    -- the new entry stands at v, and each other where it stood
    at_node : (P : ℕ → Type 0) → P v → ((j : ℕ) → j < a.made → P (get_or a.node j 0)) → (j : ℕ) → j < a.made + 1 → P (get_or b.node j 0)
    at_node P new old j h = elim (same_or_other j a.made) [
      | inl p ↦ rw (p, get_or-set_same a.node a.made v 0 (omega (arith, ok.sized.node))) new
      | inr p ↦ rw (get_or-set_other a.node a.made j v 0 p) (old j (omega arith))
    ]

    pub grown_kept : AreasKept n e slots a b
    grown_kept = record {
      proper = record {
        sized = record {
          real = simp length-set ok.sized.real;
          penalised = simp length-set ok.sized.penalised;
          came = simp length-set ok.sized.came;
          f_score = simp length-set ok.sized.f_score;
          g_score = simp length-set ok.sized.g_score;
          node = simp length-set ok.sized.node;
        };
        fewer = omega (arith, length_push (key_in b.f_score) a.heap a.made, ok.fewer);
        room = omega arith;
        numbers = push_below (key_in b.f_score) a.heap a.made ok.numbers;
        nodes = at_node (λ u. u < n) inside ok.nodes;
        reached = at_node (Reached b) now_reached (λ j h. still_reached (get_or a.node j 0) (ok.reached j h));
        marks = marks;
      };
      gone = omega (arith, length_push (key_in b.f_score) a.heap a.made);
      reached = still_reached;
    }

-- ---- the beginning

-- the label of the start
abbrev pub first : Label
first = record { real = f0; penalised = f0; came_from = None }

-- no node is reached, and there is no entry
abbrev pub cleared : Columns → ℕ → Columns
cleared a m = record a { came = replicate m unreached; heap = []; made = 0 }

module _ {n slots : ℕ} {a : Columns} (fits : Sized n slots a) (one : 0 < slots) {m : ℕ} (all : n ≤ m) where
  unmarked : (v : ℕ) → v < n → get_or (replicate m unreached) v 0 ≡ unreached
  unmarked v h = get_or-replicate m v unreached 0 (omega arith)

  cleared_proper : (e : ℕ) → Proper n e slots (cleared a m)
  cleared_proper e = record {
    sized = record {
      real = fits.real;
      penalised = fits.penalised;
      came = simp length-replicate all;
      f_score = fits.f_score;
      g_score = fits.g_score;
      node = fits.node;
    };
    fewer = omega arith;
    room = omega arith;
    numbers = λ k m. absurd (Memᴰ.not-nil m);
    nodes = λ k h. absurd (omega arith);
    reached = λ k h. absurd (omega arith);
    marks = λ v h. inl (unmarked v h);
  }

  module _ {start : ℕ} (inside : start < n) (f : Float) where
    pub begun_proper : (e : ℕ) → Proper n e slots (grown (cleared a m) start first f)
    begun_proper e = (grown_kept (cleared_proper e) one inside first tt f).proper

    module _ (roads : ℕ → Road) where
      none_reached : labels_of roads n a.real a.penalised (replicate m unreached) ≡ replicate n none
      unfolding labels_of
      none_reached = table_alike n (label_of roads a.real a.penalised (replicate m unreached)) none (λ k h. marked_none roads _ _ _ (unmarked k h))

      no_entries : entries_of a.f_score a.g_score a.node 0 ≡ []
      unfolding entries_of tabulate
      no_entries = refl

      alone : (key : ℕ → Float) → push key [] 0 ≡ 0 ∷ []
      unfolding sift_up
      alone key = refl

      pub begun_state : (q : Query) → q.nodes ≡ n → q.heuristic start ≡ f → state_of roads n (grown (cleared a m) start first f) ≡ begun q start
      unfolding begun
      begun_state q nodes far =
          let ok = cleared_proper 0 in
          let labels = grown_labels ok one inside first tt f roads ∙ rw (none_reached, nodes) refl in
          let entries = grown_entries ok one inside first tt f roads ∙ rw (no_entries, far) refl in
          λ i. record {
            labels = labels i;
            made = entries i;
            heap = alone (key_in (set a.f_score 0 f)) i;
          }

-- the only entry is in the heap
pub begun_alone : (roads : ℕ → Road) (n : ℕ) (a : Columns) (q : Query) (start : ℕ) → state_of roads n a ≡ begun q start → length a.heap ≡ a.made
unfolding begun
begun_alone roads n a q start is = ap (λ (st : State). length st.heap) is ∙ sym (ap (λ (st : State). length st.made) is) ∙ entry_count a.f_score a.g_score a.node a.made
