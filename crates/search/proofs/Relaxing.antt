-- One road over the areas is the definition's `relax`, and the roads of a node's part, one by one, are its `relax_all`.
use Prim.Native.Nat.{ℕ, ◌+◌, ◌-◌, ◌≤◌, ◌<◌}
use mathlib.Core.Path.{◌≡◌, refl, sym, ap, ◌∙◌}
use mathlib.Core.Bool.{true, false}
use mathlib.Core.Option.{Option, none, some}
use mathlib.Core.List.{List, ◌∷◌}
use lib.ListN.{get_or}
use lib.Ieee.{Float, nan}
use Rattle.std.specs.Prelude.{Option as Maybe, Some, None, Result, Ok, Err, IsErr}
use Rattle.model.specs.declared.AStarConstraints.{AStarConstraints}
use Rattle.model.specs.declared.Road.{Road}
use Rattle.model.specs.Lists.{filter, tabulate, maybe}
use Rattle.model.specs.View.{permits}
use Rattle.model.specs.Search.{Entry, State, label_at, real_of, offered, entered, relax, relax_all}
use Rattle.model.specs.Search as astar
use Rattle.model.proofs.Members.{keep_yes, keep_no}
use Rattle.search.specs.declared.HeapFull.{HeapFull}
use Rattle.search.specs.declared.areas.Label.{Label}
use Rattle.search.specs.Areas.{labels_of, label_as, Columns, state_of, cost_there, Reached, AreasKept}
use Rattle.search.specs.Answers.{cost_of, offer_as, state_after}
use Rattle.search.proofs.Tables.{tab_next, tab_none}
use Rattle.search.proofs.Labels.{label_is, real_reached, marked_cost}
use Rattle.search.proofs.Growth.{kept_on}

-- what an offer from node u reads in the areas
module _ (roads : ℕ → Road) {n : ℕ} (a : Columns) where
  pub real_seen : {u : ℕ} {x : Float} → u < n → Reached a u → get_or a.real u nan ≡ x → real_of (label_at (labels_of roads n a.real a.penalised a.came) u) ≡ x
  real_seen {u} inside reached is = ap real_of (label_is roads n a.real a.penalised a.came u inside) ∙ real_reached roads (get_or a.real u nan) (get_or a.penalised u nan) (get_or a.came u 0) reached ∙ is

  pub cost_seen : {v : ℕ} {there : Maybe Float} → v < n → there ≡ cost_there a v → cost_of (label_at (labels_of roads n a.real a.penalised a.came) v) ≡ there
  cost_seen {v} inside is = ap cost_of (label_is roads n a.real a.penalised a.came v inside) ∙ marked_cost roads (get_or a.real v nan) (get_or a.penalised v nan) (get_or a.came v 0) ∙ sym is

module _ (slots : ℕ) (q : astar.Query) (x : Entry) (st : State) (r : Road) (roads : ℕ → Road) {o : Maybe Label} (is : offer_as roads o ≡ offered q x st.labels r) where
  pub relax_keep : o ≡ None → some st ≡ relax slots q x st r
  unfolding relax maybe
  relax_keep h = rw (← is, h, maybe)

  pub relax_better : {l : Label} → o ≡ Some l → {k : Option State} → k ≡ entered slots q st r.target (label_as roads l) → k ≡ relax slots q x st r
  unfolding relax maybe
  relax_better h j = rw (← is, h, maybe) j

-- ---- all roads of a node's part

-- What is left of the part from place i on gives `goal` from the areas a; those at the beginning were a₀.
pub record Rest (n e slots : ℕ) (q : astar.Query) (x : Entry) (roads : ℕ → Road) (k : AStarConstraints) (place : ℕ → ℕ) (end : ℕ) (goal : Option State) (a₀ a : Columns) (i : ℕ) : Type 0 where
  pub kept : AreasKept n e slots a₀ a
  pub same : relax_all slots q x (filter (permits k) (tabulate (end - i) i (λ j. roads (place j)))) (state_of roads n a) ≡ goal

-- At its beginning the part is all that leaves the entry's node.
pub rest_start : {n e slots : ℕ} {q : astar.Query} (x : Entry) {roads : ℕ → Road} {k : AStarConstraints} {place : ℕ → ℕ} {a : Columns} {from i till end : ℕ}
    → AreasKept n e slots a a → i ≡ from → end ≡ till → q.leaving x.node ≡ filter (permits k) (tabulate (till - from) from (λ j. roads (place j)))
    → Rest n e slots q x roads k place end (relax_all slots q x (q.leaving x.node) (state_of roads n a)) a a i
rest_start x kept f t ways = record { kept = kept; same = rw (f, t, ways) }

module _ {n e slots : ℕ} {q : astar.Query} {x : Entry} {roads : ℕ → Road} {k : AStarConstraints} {place : ℕ → ℕ} {end : ℕ} {goal : Option State} {a₀ a : Columns} {i : ℕ} (w : Rest n e slots q x roads k place end goal a₀ a i) where
  pub rest_end : end ≤ i → some (state_of roads n a) ≡ goal
  unfolding relax_all filter
  rest_end h = sym (ap (λ (rs : List Road). relax_all slots q x (filter (permits k) rs) (state_of roads n a)) (tab_none end i (λ j. roads (place j)) h)) ∙ w.same

  -- the road r at place i
  module _ (h : i < end) {r : Road} (here : r ≡ roads (place i)) where
    abbrev others : List Road
    others = tabulate (end - (i + 1)) (i + 1) (λ j. roads (place j))

    next : relax_all slots q x (filter (permits k) (r ∷ others)) (state_of roads n a) ≡ goal
    next = sym (ap (λ (rs : List Road). relax_all slots q x (filter (permits k) rs) (state_of roads n a)) (tab_next end i (λ j. roads (place j)) h ∙ ap (λ (y : Road). y ∷ others) (sym here))) ∙ w.same

    pub rest_skip : permits k r ≡ false → Rest n e slots q x roads k place end goal a₀ a (i + 1)
    rest_skip shut = record { kept = w.kept; same = sym (ap (λ (rs : List Road). relax_all slots q x rs (state_of roads n a)) (keep_no (permits k) r others shut)) ∙ next }

    module _ (pass : permits k r ≡ true) (o : Option State) (is : o ≡ relax slots q x (state_of roads n a) r) where
      then : maybe o none (relax_all slots q x (filter (permits k) others)) ≡ goal
      unfolding relax_all
      then =
          ap (λ (o : Option State). maybe o none (relax_all slots q x (filter (permits k) others))) is
          ∙ sym (ap (λ (rs : List Road). relax_all slots q x rs (state_of roads n a)) (keep_yes (permits k) r others pass))
          ∙ next

      pub rest_done : {b : Columns} → o ≡ some (state_of roads n b) → AreasKept n e slots a b → Rest n e slots q x roads k place end goal a₀ b (i + 1)
      unfolding maybe
      rest_done done after = record { kept = kept_on w.kept after; same = rw done at then }

      pub rest_full : o ≡ none → none ≡ goal
      unfolding maybe
      rest_full done = rw done at then

pub failed : (o : Result (Unit {0}) HeapFull) (st : State) → IsErr o → state_after o st ≡ none
failed (Ok u) st h = cc
failed (Err e) st h = refl
