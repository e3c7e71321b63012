-- The turns one after the other are the definition's run; as many are left as there are entries in the heap and free slots.
use Prim.Native.Nat.{ℕ, zero, suc, ◌+◌, ◌-◌, ◌<◌}
use mathlib.Core.Path.{◌≡◌, refl, sym, ap, ◌∙◌, subst}
use mathlib.Core.List.Memᴰ
use mathlib.Core.List.{List, [], ◌∷◌}
use native.Mathlib.Omega.{arith}
use lib.ListN.{length}
use Rattle.std.specs.Prelude.{Some, None, option_map, slice_get}
use Rattle.model.specs.declared.Road.{Road}
use Rattle.model.specs.Lists.{In}
use Rattle.model.specs.Heap.{pop}
use Rattle.model.specs.Search.{Query, SearchEnd, none_found, State, entry_at, f_score_of, Step, stop, more, visit, take_step, onward, run}
use Rattle.model.specs.Search as astar
use Rattle.bounds.proofs.HeapLaws.{length_pop}
use Rattle.heap.specs.Keys.{key_in}
use Rattle.search.specs.declared.areas.Entry.{Entry}
use Rattle.search.specs.Areas.{Columns, state_of, entry_in, Reached, Proper, AreasKept}
use Rattle.search.specs.Answers.{entry_as}
use Rattle.search.proofs.Entries.{entry_is, heap_pop, pop_below}

-- From the areas a the search comes to `end`.
pub record Running (n e slots : ℕ) (q : Query) (roads : ℕ → Road) (end : ℕ → SearchEnd) (a : Columns) : Type 0 where
  pub proper : Proper n e slots a
  pub same : (steps : ℕ) → run steps (slots + length a.heap - a.made) slots q (state_of roads n a) ≡ end steps

module _ {n e slots : ℕ} {q : Query} {roads : ℕ → Road} {end : ℕ → SearchEnd} {a : Columns} (w : Running n e slots q roads end a) where
  -- an entry is taken out, if there is one
  pub rest_proper : {rest : Columns} → rest ≡ record a { heap = pop (key_in a.f_score) a.heap } → Proper n e slots rest
  rest_proper popped = rw popped record {
    sized = record { real = w.proper.sized.real; penalised = w.proper.sized.penalised; came = w.proper.sized.came; f_score = w.proper.sized.f_score; g_score = w.proper.sized.g_score; node = w.proper.sized.node };
    fewer = omega (arith, length_pop (key_in a.f_score) a.heap, w.proper.fewer);
    room = w.proper.room;
    numbers = pop_below (key_in a.f_score) a.heap a.made w.proper.numbers;
    nodes = w.proper.nodes;
    reached = w.proper.reached;
    marks = w.proper.marks;
  }

  -- the heap is empty
  pub run_end : None ≡ option_map (entry_in a) (slice_get a.heap 0) → (steps : ℕ) → none_found ≡ end steps
  unfolding run onward take_step
  run_end is steps = go a.heap is (slots + length a.heap - a.made) (w.same steps)
    where
      go : (heap : List ℕ) → None ≡ option_map (entry_in a) (slice_get heap 0) → (k : ℕ) → run steps k slots q (state_of roads n record a { heap = heap }) ≡ end steps → none_found ≡ end steps
      go [] is zero same = same
      go [] is (suc k) same = same
      go (x ∷ heap) is k same = cc

  -- the entry that stands first is taken out
  module _ {entry : Entry} (top : Some entry ≡ option_map (entry_in a) (slice_get a.heap 0)) {rest : Columns} (popped : rest ≡ record a { heap = pop (key_in a.f_score) a.heap }) where
    left_heap : length rest.heap ≡ length a.heap - 1
    left_heap = ap (λ (b : Columns). length b.heap) popped ∙ length_pop (key_in a.f_score) a.heap

    first : (k : ℕ) × (others : List ℕ) × (a.heap ≡ k ∷ others) × (entry ≡ entry_in a k)
    first = go a.heap top
      where
        go : (heap : List ℕ) → Some entry ≡ option_map (entry_in a) (slice_get heap 0) → (k : ℕ) × (others : List ℕ) × (heap ≡ k ∷ others) × (entry ≡ entry_in a k)
        go [] is = absurd (cc)
        go (k ∷ others) is = (k, others, refl, cc)

    made_before : first.0 < a.made
    made_before = w.proper.numbers first.0 (subst (In first.0) (sym first.2) (Memᴰ.head refl))

    pub taken_node : (entry.node < n) × Reached rest entry.node
    taken_node = rw (popped, first.3) (w.proper.nodes first.0 made_before, w.proper.reached first.0 made_before)

    -- it is visited
    taken : (steps : ℕ) → take_step steps slots q a.heap (state_of roads n a) ≡ visit steps slots q (entry_as entry) (state_of roads n rest)
    unfolding take_step
    taken steps =
        let st = state_of roads n a in
        ap (λ (heap : List ℕ). take_step steps slots q heap st) first.2
        ∙ ap (λ (x : astar.Entry). visit steps slots q x record st { heap = pop (f_score_of st.made) a.heap }) (entry_is a.f_score a.g_score a.node a.made first.0 made_before ∙ ap entry_as (sym first.3))
        ∙ ap (λ (heap : List ℕ). visit steps slots q (entry_as entry) record st { heap = heap }) (sym (heap_pop a.f_score a.g_score a.node a.made a.heap w.proper.numbers))
        ∙ ap (λ (b : Columns). visit steps slots q (entry_as entry) (state_of roads n b)) (sym popped)

    abbrev left : ℕ
    left = slots + length rest.heap - a.made

    turn : (steps : ℕ) → onward (visit steps slots q (entry_as entry) (state_of roads n rest)) (run steps left slots q) ≡ end steps
    unfolding run
    turn steps =
        let one : slots + length a.heap - a.made ≡ suc left = omega (arith, left_heap, ap length first.2, w.proper.room) in
        ap (λ (s : Step). onward s (run steps left slots q)) (sym (taken steps)) ∙ (rw one at (w.same steps))

    pub run_stop : (steps : ℕ) {found : SearchEnd} → stop found ≡ visit steps slots q (entry_as entry) (state_of roads n rest) → found ≡ end steps
    unfolding onward
    run_stop steps is = ap (λ (s : Step). onward s (run steps left slots q)) is ∙ turn steps

    module _ {b : Columns} (kept : AreasKept n e slots rest b) where
      fewer_left : slots + length b.heap - b.made ≡ left
      fewer_left = omega (arith, kept.gone, kept.proper.room, w.proper.room, ap (λ (b : Columns). b.made) popped)

      pub run_on : ((steps : ℕ) → more (state_of roads n b) ≡ visit steps slots q (entry_as entry) (state_of roads n rest)) → Running n e slots q roads end b
      unfolding onward
      run_on is = record {
        proper = kept.proper;
        same = λ steps. ap (λ (k : ℕ). run steps k slots q (state_of roads n b)) fewer_left ∙ ap (λ (s : Step). onward s (run steps left slots q)) (is steps) ∙ turn steps;
      }

      pub run_less : slots + length b.heap - b.made < slots + length a.heap - a.made
      run_less = omega (arith, fewer_left, left_heap, ap length first.2, w.proper.room)
