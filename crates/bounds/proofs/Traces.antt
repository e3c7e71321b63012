-- The walk back from a labelled node: along it the labels fall, so it ends at the start within nodes - 1 steps, and its roads chain.
use Prim.Native.Nat.{ℕ, zero, suc, ◌+◌, ◌-◌, ◌*◌, ◌≤◌, ◌<◌}
use mathlib.Core.Path.{◌≡◌, refl, sym, ap, ◌∙◌, subst}
use mathlib.Core.Logic.{inl, inr}
use mathlib.Core.Bool.{Bool, true, not}
use mathlib.Core.Option.{Option, none, some, none-ne-some}
use mathlib.Core.List.{List, ◌∷◌}
use native.Mathlib.Nat.{le_trans, le_of_eq, lt_irrefl, mul-le-mul_right}
use native.Mathlib.Omega.{arith}
use lib.Dec.{T, ltb, ltb→lt, lt→ltb, not_T}
use lib.ListN.{length, get_or-eq_default}
use Rattle.model.specs.declared.Road.{Road}
use Rattle.model.specs.Lists.{maybe}
use Rattle.model.specs.Search.{Query, Label, label_at, came_from, trace}
use Rattle.bounds.specs.Routes.{Leads}
use Rattle.bounds.proofs.Rank.{rank}
use Rattle.bounds.proofs.Choices.{below_or_not}
use Rattle.bounds.proofs.Counting.{count, count_all, count_strict}
use Rattle.bounds.proofs.Labels.{Back, Sound}

-- ---- one step back: there is none, or it goes over a road

module _ (ls : List (Option Label)) (v : ℕ) (path : List Road) where
  pub trace_ends : (k : ℕ) → came_from (label_at ls v) ≡ none → trace k ls v path ≡ path
  unfolding trace maybe
  trace_ends zero h = refl
  trace_ends (suc k) h = rw (h, maybe)

  pub trace_goes : (k : ℕ) (r : Road) → came_from (label_at ls v) ≡ some r → trace (suc k) ls v path ≡ trace k ls r.source (r ∷ path)
  unfolding trace maybe
  trace_goes k r h = rw (h, maybe)

-- no more roads than steps
pub trace_length : (k : ℕ) (ls : List (Option Label)) (v : ℕ) (path : List Road) → length (trace k ls v path) ≤ k + length path
unfolding trace
trace_length zero ls v path = omega arith
trace_length (suc k) ls v path = go (came_from (label_at ls v)) refl (trace_length k ls)
  where
    go : (o : Option Road) → came_from (label_at ls v) ≡ o → ((u : ℕ) (p : List Road) → length (trace k ls u p) ≤ k + length p) → length (trace (suc k) ls v path) ≤ suc k + length path
    go none e ih = rw (trace_ends ls v path (suc k) e) (omega arith)
    go (some r) e ih = rw (trace_goes ls v path k r e) (omega (arith, ih r.source (r ∷ path)))

-- ---- the whole walk

-- pairs compare by the first part, then by the second
order : (a c t u k : ℕ) → a ≤ c → (c ≤ a → t < u) → t ≤ k → a * suc k + t < c * suc k + u
order a c t u k h f m = elim (below_or_not a c) [
  | inl p ↦ omega (arith, mul-le-mul_right (suc k) p)
  | inr p ↦ let e : a ≡ c = omega arith in omega (arith, ap (λ (x : ℕ). x * suc k) e, f p)
]

rank_at : Option Label → ℕ
rank_at none = 0
rank_at (some l) = rank l.penalised

module _ (q : Query) (start : ℕ) (ls : List (Option Label)) (s : Sound q start ls) where
  -- by the label's cost, and by its time where costs are equal
  height : ℕ → ℕ
  height v = rank_at (label_at ls v) * suc s.clock + s.time v

  falls : (v : ℕ) (l : Label) (r : Road) → label_at ls v ≡ some l → Back q ls s.time v l r → height r.source < height v
  unfolding height rank_at
  falls v l r e b = rw (e, b.is, rank_at) (order (rank b.label.penalised) (rank l.penalised) (s.time r.source) (s.time v) s.clock b.low b.earlier (s.early r.source))

  -- only nodes are labelled
  pub labelled_inside : (v : ℕ) (l : Label) → label_at ls v ≡ some l → v < q.nodes
  labelled_inside v l e = elim (below_or_not v q.nodes) [ inl p ↦ p | inr p ↦ absurd (none-ne-some l (sym (get_or-eq_default ls none (le_trans (le_of_eq s.size) p)) ∙ e)) ]

  -- the walk back from v goes only over nodes of less height; so many are left
  lower : ℕ → ℕ → Bool
  lower v u = ltb (height u) (height v)

  pub left : ℕ → ℕ
  left v = count (lower v) q.nodes

  not_lower : (v : ℕ) → T (not (lower v v))
  unfolding lower
  not_lower v = not_T (ltb (height v) (height v)) (λ t. lt_irrefl (height v) (ltb→lt (height v) (height v) t))

  left_falls : (v u : ℕ) → u < q.nodes → height u < height v → left u < left v
  unfolding left lower
  left_falls v u inside h = count_strict (lower u) (lower v) (λ w t. lt→ltb (height w) (height v) (omega (arith, ltb→lt (height w) (height u) t))) q.nodes u inside (not_lower u) (lt→ltb (height u) (height v) h)

  pub left_most : (v : ℕ) (l : Label) → label_at ls v ≡ some l → left v ≤ q.nodes - 1
  unfolding left
  left_most v l e = omega (arith, count_strict (lower v) (λ u. true) (λ u t. tt) q.nodes v (labelled_inside v l e) (not_lower v) tt, count_all q.nodes)

  -- where a label came from: it is the start's, or a road brought it from a node with less left
  data Origin : ℕ → Type 0 where
    at_start : {v : ℕ} → came_from (label_at ls v) ≡ none → v ≡ start → Origin v
    by_road : {v : ℕ} {l : Label} (r : Road) → came_from (label_at ls v) ≡ some r → Back q ls s.time v l r → left r.source < left v → Origin v

  origin_of : (v : ℕ) (l : Label) → label_at ls v ≡ some l → Origin v
  unfolding came_from
  origin_of v l e = go l.came_from refl
    where
      go : (o : Option Road) → l.came_from ≡ o → Origin v
      go none h = at_start (ap came_from e ∙ h) (s.origin v l e h)
      go (some r) h = let b = s.back v l r e h in by_road r (ap came_from e ∙ h) b (left_falls v r.source (labelled_inside r.source b.label b.is) (falls v l r e b))

  -- with as many steps as are left, more change nothing
  pub trace_enough : (j k v : ℕ) (l : Label) → label_at ls v ≡ some l → (path : List Road) → left v ≤ j → j ≤ k → trace k ls v path ≡ trace j ls v path
  trace_enough zero k v l e path h a = go (origin_of v l e)
    where
      go : Origin v → trace k ls v path ≡ trace 0 ls v path
      go (at_start n p) = trace_ends ls v path k n ∙ sym (trace_ends ls v path 0 n)
      go (by_road r m b f) = absurd (omega arith)
  trace_enough (suc j) zero v l e path h a = absurd (omega arith)
  trace_enough (suc j) (suc k) v l e path h a = go (origin_of v l e) (trace_enough j k)
    where
      go : Origin v → ((u : ℕ) (m : Label) → label_at ls u ≡ some m → (p : List Road) → left u ≤ j → j ≤ k → trace k ls u p ≡ trace j ls u p) → trace (suc k) ls v path ≡ trace (suc j) ls v path
      go (at_start n p) ih = trace_ends ls v path (suc k) n ∙ sym (trace_ends ls v path (suc j) n)
      go (by_road r m b f) ih = trace_goes ls v path k r m ∙ ih r.source b.label b.is (r ∷ path) (omega arith) (omega arith) ∙ sym (trace_goes ls v path j r m)

  -- and the roads lead from the start
  pub trace_leads : (k v : ℕ) (l : Label) → label_at ls v ≡ some l → (path : List Road) (goal : ℕ) → left v ≤ k → Leads q v path goal → Leads q start (trace k ls v path) goal
  trace_leads zero v l e path goal h c = go (origin_of v l e)
    where
      go : Origin v → Leads q start (trace 0 ls v path) goal
      go (at_start n p) = rw (trace_ends ls v path 0 n) (rw p at c)
      go (by_road r m b f) = absurd (omega arith)
  trace_leads (suc k) v l e path goal h c = go (origin_of v l e) (trace_leads k)
    where
      go : Origin v → ((u : ℕ) (m : Label) → label_at ls u ≡ some m → (p : List Road) (g : ℕ) → left u ≤ k → Leads q u p g → Leads q start (trace k ls u p) g) → Leads q start (trace (suc k) ls v path) goal
      go (at_start n p) ih = rw (trace_ends ls v path (suc k) n) (rw p at c)
      go (by_road r m b f) ih = rw (trace_goes ls v path k r m) (ih r.source b.label b.is (r ∷ path) goal (omega arith) (refl, b.leaves, subst (λ (u : ℕ). Leads q u path goal) (sym b.ends) c))
