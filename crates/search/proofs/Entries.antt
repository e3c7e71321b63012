-- The entries that the heap's areas stand for: one of them, one more, and the heap of their numbers after a push and a pop.
use Prim.Native.Nat.{ℕ, ◌+◌, ◌<◌}
use mathlib.Core.Path.{◌≡◌, sym, ap}
use mathlib.Core.Logic.{inl, inr}
use mathlib.Core.List.Memᴰ
use mathlib.Core.List.{List, [], ◌∷◌, ◌++◌}
use native.Mathlib.Omega.{arith}
use lib.ListN.{length, set}
use lib.Seq.{get_or-set_same, get_or-set_other}
use lib.Ieee.{Float, nan}
use Rattle.model.specs.Heap.{push, pop}
use Rattle.model.specs.Search.{Entry, no_entry, entry_at, f_score_of}
use Rattle.model.proofs.Members.{length_tab, getD_table}
use Rattle.bounds.proofs.HeapLaws.{push_held, pop_held}
use Rattle.heap.specs.Keys.{key_in, Below}
use Rattle.heap.proofs.KeysSame.{push_same, pop_same}
use Rattle.search.specs.Areas.{heap_entry, entries_of}
use Rattle.search.proofs.Tables.{table_more}

module _ (key cost : List Float) (node : List ℕ) (made : ℕ) where
  pub entry_count : length (entries_of key cost node made) ≡ made
  unfolding entries_of
  entry_count = length_tab made 0 (heap_entry key cost node)

  pub entry_is : (k : ℕ) → k < made → entry_at (entries_of key cost node made) k ≡ heap_entry key cost node k
  unfolding entries_of
  entry_is k h = getD_table made (heap_entry key cost node) k no_entry h

  pub key_is : (k : ℕ) → k < made → f_score_of (entries_of key cost node made) k ≡ key_in key k
  key_is k h = ap (λ (x : Entry). x.f_score) (entry_is k h)

  -- a store in each of the three areas behind the last entry is one entry more
  pub entries_more : (x y : Float) (v : ℕ) → made < length key → made < length cost → made < length node
      → entries_of (set key made x) (set cost made y) (set node made v) (made + 1) ≡ entries_of key cost node made ++ record { f_score = x; g_score = y; node = v } ∷ []
  unfolding entries_of
  entries_more x y v k c n =
      table_more made (heap_entry key cost node) (heap_entry (set key made x) (set cost made y) (set node made v)) (record { f_score = x; g_score = y; node = v })
      (rw (get_or-set_same key made x nan k, get_or-set_same cost made y nan c, get_or-set_same node made v 0 n))
      (λ j h. rw (get_or-set_other key made j x nan (λ e. omega arith), get_or-set_other cost made j y nan (λ e. omega arith), get_or-set_other node made j v 0 (λ e. omega arith)))

-- ---- the heap

module _ (key cost : List Float) (node : List ℕ) (made : ℕ) (heap : List ℕ) where
  -- entry e, the last one made, goes in
  pub heap_push : (e : ℕ) → made ≡ e + 1 → Below heap e → push (key_in key) heap e ≡ push (f_score_of (entries_of key cost node made)) heap e
  heap_push e last below =
      push_same (key_in key) (f_score_of (entries_of key cost node made)) heap e (λ k m.
      let h : k < made = elim (Memᴰ.cases_cons m) [ inl p ↦ omega arith | inr p ↦ omega (arith, below k p) ] in
      sym (key_is key cost node made k h))

  -- the first one goes out
  pub heap_pop : Below heap made → pop (key_in key) heap ≡ pop (f_score_of (entries_of key cost node made)) heap
  heap_pop below = pop_same (key_in key) (f_score_of (entries_of key cost node made)) heap (λ k m. sym (key_is key cost node made k (below k m)))

pub push_below : (key : ℕ → Float) (heap : List ℕ) (e : ℕ) → Below heap e → Below (push key heap e) (e + 1)
push_below key heap e below = (push_held (λ k. k < e + 1) key heap e (λ k m. omega (arith, below k m)) (omega arith)).every

pub pop_below : (key : ℕ → Float) (heap : List ℕ) (made : ℕ) → Below heap made → Below (pop key heap) made
pop_below key heap made below = (pop_held (λ k. k < made) key heap below).every
