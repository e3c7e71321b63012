-- The labels that the node areas stand for: one of them, after a store, and what a road offers one.
use Prim.Native.Nat.{ℕ, ◌≤◌, ◌<◌}
use mathlib.Core.Path.{◌≡◌, refl, sym, ◌∙◌}
use mathlib.Core.Logic.{inl, inr, ◌≢◌}
use mathlib.Core.Bool.{Bool, true, false, cond, ◌||◌}
use mathlib.Core.Option.{Option, none, some}
use mathlib.Core.List.{List}
use Rattle.std.specs.Prelude.{Option as Maybe, Some, None}
use native.Mathlib.Omega.{arith}
use lib.Dec.{eqb}
use lib.ListN.{length, set}
use lib.Seq.{get_or-set_same, get_or-set_other}
use lib.Ieee.{Float, nan}
use borrow.Author.Tests.{eq-eqb, ne_eqb}
use Rattle.model.specs.declared.Road.{Road}
use Rattle.model.specs.Numbers.{◌⊕◌, ◌<ᶠ◌, ◌≤ᶠ◌}
use Rattle.model.specs.Search.{Query, Label, Entry, label_at, real_of, dominated, stale, offered, came_from}
use Rattle.model.proofs.Members.{getD_table}
use Rattle.bounds.proofs.Turns.{offered_none, offered_some}
use Rattle.search.specs.declared.areas.Label as code
use Rattle.search.specs.Areas.{unreached, start_mark, came_by, marked, label_of, labels_of, label_as, mark_of, CameByRoad, MarkOrRoad}
use Rattle.search.specs.Answers.{cost_of}
use Rattle.search.proofs.Tables.{table_set}

-- ---- a label by its mark

module _ (roads : ℕ → Road) (x y : Float) (k : ℕ) where
  abbrev pub reached_label : Label
  reached_label = record { real = x; penalised = y; came_from = came_by roads k }

  pub marked_none : k ≡ unreached → marked roads x y k ≡ none
  unfolding marked
  marked_none h = rw (eq-eqb k unreached h)

  pub marked_some : k ≢ unreached → marked roads x y k ≡ some reached_label
  unfolding marked
  marked_some h = rw (ne_eqb k unreached h)

  pub real_reached : k ≢ unreached → real_of (marked roads x y k) ≡ x
  unfolding real_of
  real_reached h = rw (marked_some h)

  pub stale_reached : (g : Float) → k ≢ unreached → stale (marked roads x y k) g ≡ (y <ᶠ g)
  unfolding stale
  stale_reached g h = rw (marked_some h)

  -- the road that it came by
  pub came_road : k ≢ unreached → k ≢ start_mark → came_from (marked roads x y k) ≡ some (roads k)
  unfolding came_from came_by
  came_road h j = rw (marked_some h, came_from, ne_eqb k start_mark j)

  pub came_start : k ≡ start_mark → came_from (marked roads x y k) ≡ none
  unfolding came_from came_by
  came_start h = rw (marked_some (λ e. omega arith), came_from, eq-eqb k start_mark h)

  pub came_unreached : k ≡ unreached → came_from (marked roads x y k) ≡ none
  unfolding came_from
  came_unreached h = rw (marked_none h)

-- its penalised cost
pub marked_cost : (roads : ℕ → Road) (x y : Float) (k : ℕ) → cost_of (marked roads x y k) ≡ cond (eqb k unreached) None (Some y)
unfolding marked
marked_cost roads x y k = go (eqb k unreached)
  where
    go : (b : Bool) → cost_of (cond b none (some (reached_label roads x y k))) ≡ cond b None (Some y)
    go true = refl
    go false = refl

-- the label that a label of the code leaves
pub label_left : (roads : ℕ → Road) (l : code.Label) (e : ℕ) → CameByRoad e l.came_from → marked roads l.real l.penalised (mark_of l.came_from) ≡ some (label_as roads l)
unfolding came_by
label_left roads l e by = go l.came_from by
  where
    go : (o : Maybe ℕ) → CameByRoad e o → marked roads l.real l.penalised (mark_of o) ≡ some (label_as roads record l { came_from = o })
    go None by = marked_some roads l.real l.penalised start_mark (λ z. omega arith)
    go (Some k) by = marked_some roads l.real l.penalised k (λ z. omega arith) ∙ rw (ne_eqb k start_mark (λ z. omega arith))

-- it is reached
pub mark_reaches : (e : ℕ) (o : Maybe ℕ) → CameByRoad e o → (mark_of o ≢ unreached) × MarkOrRoad e (mark_of o)
mark_reaches e None by = (λ z. omega arith, inr (inl refl))
mark_reaches e (Some k) by = (λ z. omega arith, inr (inr by.0))

-- ---- what a road offers

-- the penalised cost that is there, if there is one, tells whether the label there stays
pub stays_by : (l : Option Label) {there : Maybe Float} (g : Float) {b : Bool} → cost_of l ≡ there → (there ≡ None → b ≡ false) → ((y : Float) → there ≡ Some y → b ≡ (y ≤ᶠ g)) → dominated l g ≡ b
unfolding dominated
stays_by none g is alone other = sym (alone (sym is))
stays_by (some l) g is alone other = sym (other l.penalised (sym is))

module _ (q : Query) (x : Entry) (ls : List (Option Label)) (r : Road) {real : Float} (real_is : real_of (label_at ls x.node) ≡ real) where
  abbrev b : Float
  b = x.g_score ⊕ r.length_m ⊕ q.penalty r

  pub offer_long : (q.max_cost <ᶠ (real ⊕ r.length_m)) ≡ true → none ≡ offered q x ls r
  offer_long h = sym (offered_none q x ls r (rw (real_is, h)))

  pub offer_worse : dominated (label_at ls r.target) b ≡ true → none ≡ offered q x ls r
  offer_worse h = sym (offered_none q x ls r (rw h (either_true (q.max_cost <ᶠ (real_of (label_at ls x.node) ⊕ r.length_m)))))
    where
      either_true : (t : Bool) → (t || true) ≡ true
      either_true true = refl
      either_true false = refl

  pub offer_better : (q.max_cost <ᶠ (real ⊕ r.length_m)) ≡ false → dominated (label_at ls r.target) b ≡ false → {road : Road} → road ≡ r
      → some record { real = real ⊕ r.length_m; penalised = b; came_from = some road } ≡ offered q x ls r
  offer_better h k is = sym (offered_some q x ls r (rw (real_is, h, k)) ∙ rw (real_is, is))

-- ---- the labels of all nodes

module _ (roads : ℕ → Road) (n : ℕ) (real penalised : List Float) (came : List ℕ) where
  pub label_is : (v : ℕ) → v < n → label_at (labels_of roads n real penalised came) v ≡ label_of roads real penalised came v
  unfolding labels_of
  label_is v h = getD_table n (label_of roads real penalised came) v none h

  -- a store in each of the three areas is one label anew
  pub labels_set : (v : ℕ) (x y : Float) (k : ℕ) → v < n → n ≤ length real → n ≤ length penalised → n ≤ length came
      → labels_of roads n (set real v x) (set penalised v y) (set came v k) ≡ set (labels_of roads n real penalised came) v (marked roads x y k)
  unfolding labels_of
  labels_set v x y k h r p c =
      table_set n (label_of roads real penalised came) (label_of roads (set real v x) (set penalised v y) (set came v k)) v (marked roads x y k) h
      (rw (get_or-set_same real v x nan (omega arith), get_or-set_same penalised v y nan (omega arith), get_or-set_same came v k 0 (omega arith)))
      (λ j d. rw (get_or-set_other real v j x nan d, get_or-set_other penalised v j y nan d, get_or-set_other came v j k 0 d))
