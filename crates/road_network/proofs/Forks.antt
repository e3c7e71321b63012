-- A node with more than two roads out is valid: its list holds each of them once, and a node without a choice has at most two.
use Prim.Native.Nat.{ℕ, zero, suc, ◌+◌, ◌-◌, ◌≤◌, ◌<◌}
use mathlib.Core.Path.{◌≡◌, refl, sym, ap, subst, ◌∙◌}
use mathlib.Core.Logic.{◌≢◌}
use mathlib.Core.Bool.{Bool, true, false}
use mathlib.Core.List.Memᴰ
use mathlib.Core.List.{List}
use native.Mathlib.Nat.{zero-add}
use native.Mathlib.Omega.{arith}
use lib.Dec.{ltb}
use lib.ListN.{length}
use borrow.Author.Tests.{eq-eqb, ltb-true}
use Rattle.model.specs.declared.Counts.{Counts}
use Rattle.model.specs.Lists.{In, tabulate, filter}
use Rattle.model.specs.Judge.{WellFormed, start_of, entry_of}
use Rattle.model.specs.Sheet.{Sheet, sheet_of, road_at, list_at, numbers}
use Rattle.model.specs.Ends.{is_valid_node}
use Rattle.model.proofs.Members.{length_tab, in_tab, tab_in, keep_in}
use Rattle.model.proofs.Fields.{entry_below}
use Rattle.model.proofs.Listed.{start_most, listed}
use Rattle.bounds.specs.Formed.{Formed}
use Rattle.bounds.specs.Theorems.{Distinct}
use Rattle.bounds.proofs.FormedProof.{well_formed_formed}
use Rattle.bounds.proofs.Pigeon.{pigeon}
use Rattle.bounds.proofs.Few.{leaves, outs_few}
use Rattle.sheet.proofs.Parts.{part_is}
use Rattle.road_network.specs.Graph.{is_fork}

-- a run whose places hold different numbers
distinct_tab : (f : ℕ → ℕ) (n i : ℕ) → ((j k : ℕ) → i ≤ j → j < k → k < i + n → f k ≢ f j) → Distinct (tabulate n i f)
unfolding tabulate
distinct_tab f zero i h = tt
distinct_tab f (suc n) i h =
    (λ y m e. let k = in_tab n (i + 1) f m in h i (i + 1 + k.0) (omega arith) (omega arith) (omega (arith, k.1)) (k.2 ∙ e), distinct_tab f n (i + 1) (λ j k a b l. h j k (omega arith) b (omega arith)))

-- the numbers of a list without repetition are those of roads out, at most two where there is no choice
outs_most : (t : Sheet) → Formed t → (v : ℕ) → Distinct (list_at t v) → is_valid_node t v ≡ false → length (list_at t v) ≤ 2
outs_most t f v d e = omega (arith, outs_few t v e, pigeon (list_at t v) (filter (leaves t v) (numbers t)) d out)
  where
    out : (x : ℕ) → In x (list_at t v) → In x (filter (leaves t v) (numbers t))
    out x m =
        let l = f.lists v x m in
        keep_in (leaves t v) (numbers t) (Memᴰ.cast (sym (zero-add x)) (tab_in (length t.roads) 0 (λ r. r) x l.0)) (eq-eqb (road_at t x).source v l.1)

module _ (s : List ℕ) (c : Counts) (ok : WellFormed s c) (v : ℕ) (h : v < c.n) where
  -- each road stands at one place
  apart : (j k : ℕ) → j < k → k < c.e → entry_of s c k ≢ entry_of s c j
  apart j k l b e =
      let p = listed s c ok.sound ok.lists (entry_of s c j) (entry_below s c ok.sound j (omega arith)) in
      omega (arith, p.once j (omega arith) refl, p.once k b e)

  list_distinct : Distinct (list_at (sheet_of s c) v)
  list_distinct =
      subst Distinct (sym (part_is s c ok v h))
      (distinct_tab (entry_of s c) _ _ (λ j k a b l. apart j k b (omega (arith, start_most s c ok.sound ok.lists (v + 1) (omega arith)))))

  pub fork_is : {from end : ℕ} → from ≡ start_of s c v → end ≡ start_of s c (v + 1) → ltb 2 (end - from) ≡ is_fork (sheet_of s c) v
  unfolding is_fork
  fork_is p q = rw (p, q) (sym (ap (ltb 2) (ap length (part_is s c ok v h) ∙ length_tab _ _ (entry_of s c))))

  pub fork_valid : is_fork (sheet_of s c) v ≡ true → is_valid_node (sheet_of s c) v ≡ true
  unfolding is_fork
  fork_valid e = go (is_valid_node (sheet_of s c) v) refl
    where
      go : (b : Bool) → is_valid_node (sheet_of s c) v ≡ b → b ≡ true
      go true f = refl
      go false f = absurd (omega (arith, ltb-true 2 (length (list_at (sheet_of s c) v)) e, outs_most (sheet_of s c) (well_formed_formed s c ok) v list_distinct f))
