-- The labels form a tree, since each but the start's came by a road from a label that is lower, or as low and set earlier; a better label from a live entry keeps that.
use Prim.Native.Nat.{ℕ, zero, suc, ◌≤◌, ◌<◌}
use mathlib.Core.Path.{◌≡◌, refl, sym, ap, ◌∙◌, subst}
use mathlib.Core.Logic.{◌⊎◌, inl, inr, ◌≢◌}
use mathlib.Core.Bool.{Bool, true, false, not, cond, ◌||◌}
use mathlib.Core.Option.{Option, none, some, some-injective, none-ne-some}
use mathlib.Core.List.{List}
use native.Mathlib.Nat.{le_refl, le_trans, le_of_eq}
use native.Mathlib.Omega.{arith}
use lib.Dec.{T, eqb}
use lib.ListN.{length, set, length-set, replicate, length-replicate}
use lib.Seq.{get_or-set_same, get_or-set_other}
use lib.Ieee.{Float}
use borrow.Author.Tests.{eq-eqb, ne_eqb}
use Rattle.model.specs.declared.Road.{Road}
use Rattle.model.specs.Numbers.{◌⊕◌, ◌<ᶠ◌, f0}
use Rattle.model.specs.Lists.{In}
use Rattle.model.specs.Search.{Query, Label, Entry, label_at, real_of, dominated}
use Rattle.bounds.specs.Amounts.{Amount}
use Rattle.bounds.specs.Routes.{WayFacts, Ways}
use Rattle.bounds.proofs.Rank.{rank, nle_rank, add_amount, add_rank}
use Rattle.bounds.proofs.AmountLaws.{finite_amount, zero_amount, zero_rank}
use Rattle.bounds.proofs.Choices.{same_or_other}
use Rattle.bounds.proofs.Turns.{offer, refused}

-- ---- what holds of the labels and of an entry

-- the start's label
abbrev pub first_label : Label
first_label = record { real = f0; penalised = f0; came_from = none }

-- A label's road r ends here and leaves a labelled node whose label is lower, or as low and set earlier.
pub record Back (q : Query) (ls : List (Option Label)) (time : ℕ → ℕ) (v : ℕ) (l : Label) (r : Road) : Type 0 where
  pub ends : r.target ≡ v
  pub leaves : In r (q.leaving r.source)
  pub label : Label
  pub is : label_at ls r.source ≡ some label
  pub low : rank label.penalised ≤ rank l.penalised
  pub earlier : rank l.penalised ≤ rank label.penalised → time r.source < time v

-- What holds of the labels at any time. `time` says when a node's label was set, and none was later than `clock`.
pub record Sound (q : Query) (start : ℕ) (ls : List (Option Label)) : Type 0 where
  pub size : length ls ≡ q.nodes
  pub begin : label_at ls start ≡ some first_label
  pub reals : (v : ℕ) (l : Label) → label_at ls v ≡ some l → Amount l.real
  pub costs : (v : ℕ) (l : Label) → label_at ls v ≡ some l → Amount l.penalised
  pub origin : (v : ℕ) (l : Label) → label_at ls v ≡ some l → l.came_from ≡ none → v ≡ start
  pub clock : ℕ
  pub time : ℕ → ℕ
  pub early : (v : ℕ) → time v ≤ clock
  pub back : (v : ℕ) (l : Label) (r : Road) → label_at ls v ≡ some l → l.came_from ≡ some r → Back q ls time v l r

-- The entry's node is labelled, no higher than the entry.
pub record Live (ls : List (Option Label)) (e : Entry) : Type 0 where
  pub label : Label
  pub is : label_at ls e.node ≡ some label
  pub g_score : Amount e.g_score
  pub low : rank label.penalised ≤ rank e.g_score

-- ---- the start's label alone

abbrev pub first_labels : Query → ℕ → List (Option Label)
first_labels q start = set (replicate q.nodes none) start (some first_label)

-- no node but the start is labelled
no_label : (n v : ℕ) → label_at (replicate n none) v ≡ none
no_label zero v = refl
no_label (suc n) zero = refl
no_label (suc n) (suc v) = no_label n v

module _ (q : Query) (start : ℕ) (inside : start < q.nodes) where
  at_start : label_at (first_labels q start) start ≡ some first_label
  at_start = get_or-set_same (replicate q.nodes none) start (some first_label) none (rw length-replicate inside)

  only : (v : ℕ) (l : Label) → label_at (first_labels q start) v ≡ some l → (v ≡ start) × (first_label ≡ l)
  only v l h = elim (same_or_other v start) [
    | inl p ↦ (p, some-injective first_label l (sym at_start ∙ rw p at h))
    | inr p ↦ absurd (none-ne-some l (sym (get_or-set_other (replicate q.nodes none) start v (some first_label) none p ∙ no_label q.nodes v) ∙ h))
  ]

  pub first_sound : Sound q start (first_labels q start)
  first_sound = record {
    size = length-set (replicate q.nodes none) start (some first_label) ∙ length-replicate q.nodes none;
    begin = at_start;
    reals = λ v l h. subst (λ (x : Label). Amount x.real) (only v l h).1 zero_amount;
    costs = λ v l h. subst (λ (x : Label). Amount x.penalised) (only v l h).1 zero_amount;
    origin = λ v l h k. (only v l h).0;
    clock = 0;
    time = λ v. 0;
    early = λ v. le_refl 0;
    back = λ v l r h k. absurd (none-ne-some r (ap (λ (x : Label). x.came_from) (only v l h).1 ∙ k));
  }

  pub first_live : (key : Float) → Live (first_labels q start) record { f_score = key; g_score = f0; node = start }
  first_live key = record { label = first_label; is = at_start; g_score = zero_amount; low = le_refl (rank f0) }

-- ---- one more label

-- f, but x at v
abbrev but : (ℕ → ℕ) → ℕ → ℕ → ℕ → ℕ
but f v x n = cond (eqb n v) x (f n)

-- of two tests that both fail, the second
not_second : (a b : Bool) → (a || b) ≡ false → T (not b)
not_second true b h = absurd (subst T h tt)
not_second false b h = rw h tt

-- Road r of the live entry e gives its target v a label.
module _ (q : Query) (start : ℕ) (ways : Ways q) (ls : List (Option Label)) (s : Sound q start ls) (e : Entry) (live : Live ls e) (r : Road) (leaves : In r (q.leaving e.node)) (free : refused q e ls r ≡ false) where
  abbrev new : Label
  new = offer q e ls r

  abbrev v : ℕ
  v = r.target

  abbrev next : List (Option Label)
  next = set ls v (some new)

  abbrev way : WayFacts q e.node r
  way = ways.roads e.node r leaves

  -- its two costs are amounts, and the penalised one ranks no lower than the entry's
  metres : Amount r.length_m
  metres = finite_amount r.length_m way.length_m

  real : Amount new.real
  unfolding real_of
  real = add_amount (real_of (label_at ls e.node)) r.length_m (rw live.is (s.reals e.node live.label live.is)) metres

  so_far : Amount (e.g_score ⊕ r.length_m)
  so_far = add_amount e.g_score r.length_m live.g_score metres

  cost : Amount new.penalised
  cost = add_amount (e.g_score ⊕ r.length_m) (q.penalty r) so_far (ways.penalties r)

  above : rank e.g_score ≤ rank new.penalised
  above = le_trans (add_rank e.g_score r.length_m live.g_score metres) (add_rank (e.g_score ⊕ r.length_m) (q.penalty r) so_far (ways.penalties r))

  -- a label at v is above the new one
  strict : (l : Label) → label_at ls v ≡ some l → rank new.penalised < rank l.penalised
  unfolding dominated
  strict l h = nle_rank l.penalised new.penalised (s.costs v l h) cost (subst (λ (o : Option Label). T (not (dominated o new.penalised))) h (not_second (q.max_cost <ᶠ new.real) (dominated (label_at ls v) new.penalised) free))

  -- the labels afterwards
  at_v : label_at next v ≡ some new
  at_v = get_or-set_same ls v (some new) none (omega (arith, s.size, way.target))

  elsewhere : (u : ℕ) → u ≢ v → label_at next u ≡ label_at ls u
  elsewhere u h = get_or-set_other ls v u (some new) none h

  not_start : start ≢ v
  not_start h = omega (arith, strict first_label (rw h at s.begin), zero_rank new.penalised)

  not_node : e.node ≢ v
  not_node h = omega (arith, strict live.label (rw h at live.is), live.low, above)

  -- each is the new one, or an old one
  after : (u : ℕ) (l : Label) → label_at next u ≡ some l → ((u ≡ v) × (new ≡ l)) ⊎ ((u ≢ v) × (label_at ls u ≡ some l))
  after u l h = elim (same_or_other u v) [
    | inl p ↦ inl (p, some-injective new l (sym at_v ∙ rw p at h))
    | inr p ↦ inr (p, sym (elsewhere u p) ∙ h)
  ]

  -- the new one is the latest
  times : ℕ → ℕ
  times = but s.time v (suc s.clock)

  times_v : times v ≡ suc s.clock
  unfolding times
  times_v = rw (eq-eqb v v refl)

  times_other : (u : ℕ) → u ≢ v → times u ≡ s.time u
  unfolding times
  times_other u h = rw (ne_eqb u v h)

  -- the roads back, of the new label and of the old ones
  new_back : Back q next times v new r
  new_back = record {
    ends = refl;
    leaves = subst (λ (u : ℕ). In r (q.leaving u)) (sym way.source) leaves;
    label = live.label;
    is = subst (λ (u : ℕ). label_at next u ≡ some live.label) (sym way.source) (elsewhere e.node not_node ∙ live.is);
    low = le_trans live.low above;
    earlier = λ h. subst (λ (u : ℕ). times u < times v) (sym way.source) (omega (arith, times_v, times_other e.node not_node, s.early e.node));
  }

  old_back : (u : ℕ) (l : Label) (x : Road) → u ≢ v → Back q ls s.time u l x → Back q next times u l x
  old_back u l x p b = elim (same_or_other x.source v) [
    | inl h ↦ let higher = strict b.label (rw h at b.is) in record {
      ends = b.ends;
      leaves = b.leaves;
      label = new;
      is = rw h at_v;
      low = omega (arith, higher, b.low);
      earlier = λ k. absurd (omega (arith, higher, b.low));
    }
    | inr h ↦ record {
      ends = b.ends;
      leaves = b.leaves;
      label = b.label;
      is = elsewhere x.source h ∙ b.is;
      low = b.low;
      earlier = λ k. omega (arith, times_other x.source h, times_other u p, b.earlier k);
    }
  ]

  -- all that holds, holds afterwards
  pub set_sound : Sound q start next
  set_sound = record {
    size = length-set ls v (some new) ∙ s.size;
    begin = elsewhere start not_start ∙ s.begin;
    reals = λ u l h. elim (after u l h) [ inl p ↦ subst (λ (x : Label). Amount x.real) p.1 real | inr p ↦ s.reals u l p.1 ];
    costs = λ u l h. elim (after u l h) [ inl p ↦ subst (λ (x : Label). Amount x.penalised) p.1 cost | inr p ↦ s.costs u l p.1 ];
    origin = λ u l h k. elim (after u l h) [ inl p ↦ absurd (none-ne-some r (sym k ∙ ap (λ (x : Label). x.came_from) (sym p.1))) | inr p ↦ s.origin u l p.1 k ];
    clock = suc s.clock;
    time = times;
    early = λ u. elim (same_or_other u v) [ inl p ↦ rw p (le_of_eq times_v) | inr p ↦ omega (arith, times_other u p, s.early u) ];
    back = λ u l x h k. elim (after u l h) [
      | inl p ↦ subst (λ (y : Road). Back q next times u l y) (some-injective r x (ap (λ (y : Label). y.came_from) p.1 ∙ k)) (subst (λ (y : Label). Back q next times u y r) p.1 (rw p.0 new_back))
      | inr p ↦ old_back u l x p.0 (s.back u l x p.1 k)
    ];
  }

  pub set_live : (x : Entry) → Live ls x → Live next x
  set_live x a = elim (same_or_other x.node v) [
    | inl h ↦ record { label = new; is = rw h at_v; g_score = a.g_score; low = omega (arith, strict a.label (rw h at a.is), a.low) }
    | inr h ↦ record { label = a.label; is = elsewhere x.node h ∙ a.is; g_score = a.g_score; low = a.low }
  ]

  pub new_live : (key : Float) → Live next record { f_score = key; g_score = new.penalised; node = v }
  new_live key = record { label = new; is = at_v; g_score = cost; low = le_refl (rank new.penalised) }
