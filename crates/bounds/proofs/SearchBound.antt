-- `search_theorem`, from what every turn keeps: the labels are sound, the entries made are live, and the heap holds only their numbers.
use Prim.Native.Nat.{ℕ, zero, suc, ◌-◌, ◌≤◌, ◌<◌}
use mathlib.Core.Path.{◌≡◌, refl, ◌∙◌, subst}
use mathlib.Core.Option.{some}
use mathlib.Core.List.Memᴰ
use mathlib.Core.List.{List, [], ◌∷◌, ◌++◌}
use native.Mathlib.Nat.{zero-lt-suc}
use native.Mathlib.Omega.{arith}
use lib.ListN.{length, set, length-append}
use lib.Ieee.{Float}
use Rattle.model.specs.declared.Road.{Road}
use Rattle.model.specs.Lists.{In}
use Rattle.model.specs.Search.{Query, SearchEnd, found, none_found, full, Entry, State, label_at, no_entry, entry_at, f_score_of, real_of, relax, trace, take_step, begun, search_within, bounded_astar}
use Rattle.model.proofs.Members.{Every, every_snoc, here, in_getD}
use Rattle.bounds.specs.Amounts.{Amount}
use Rattle.bounds.specs.Routes.{Ways, Leads}
use Rattle.bounds.specs.Theorems.{SearchTheorem}
use Rattle.bounds.proofs.HeapLaws.{push_held, pop_held}
use Rattle.bounds.proofs.Turns.{offer, entry_for, relax_by, Kept, popped, StepsTo, arrived, take_step_by, visit_keeps, run_keeps, visit_same, take_step_same, run_same, run_enough}
use Rattle.bounds.proofs.Labels.{Sound, Live, first_sound, first_live, set_sound, set_live, new_live}
use Rattle.bounds.proofs.Traces.{trace_length, left, left_most, trace_enough, trace_leads}

-- ---- what every turn keeps

pub record Inv (q : Query) (start : ℕ) (st : State) : Type 0 where
  pub sound : Sound q start st.labels
  pub made : Every (Live st.labels) st.made
  pub heap : Every (λ k. k < length st.made) st.heap

-- while the roads of e are tried
abbrev pub With : Query → ℕ → Entry → State → Type 0
With q start e st = Inv q start st × Live st.labels e

-- at the start
pub begun_inv : (q : Query) (start : ℕ) → start < q.nodes → Inv q start (begun q start)
unfolding begun
begun_inv q start h = record {
  sound = first_sound q start h;
  made = λ e m. rw (Memᴰ.eq_of_singleton m) (first_live q start h (q.heuristic start));
  heap = λ k m. rw (Memᴰ.eq_of_singleton m) (zero-lt-suc 0);
}

-- the entry that a turn takes
pub taken_inv : (q : Query) (start : ℕ) (st : State) (top : ℕ) (rest : List ℕ) → Inv q start st → st.heap ≡ top ∷ rest → With q start (entry_at st.made top) (popped st)
taken_inv q start st top rest v e = (
  record { sound = v.sound; made = v.made; heap = (pop_held (λ k. k < length st.made) (f_score_of st.made) st.heap v.heap).every },
  v.made (entry_at st.made top) (in_getD st.made top no_entry (v.heap top (rw e here))),
)

-- one of its roads
pub relax_inv : (q : Query) (start : ℕ) → Ways q → (slots : ℕ) (e : Entry) (r : Road) → In r (q.leaving e.node) → (st : State) → With q start e st → Kept (With q start e) (relax slots q e st r)
relax_inv q start ways slots e r m st w =
    relax_by slots q e st r (Kept (With q start e)) (λ h. w)
    (λ free k.
    let ls = st.labels in
    let s = w.0.sound in
    let l = offer q e ls r in
    let x = entry_for q r.target l in
    let longer = length-append st.made (x ∷ []) in
    let live = set_live q start ways ls s e w.1 r m free in (
      record {
        sound = set_sound q start ways ls s e w.1 r m free;
        made = every_snoc (Live (set ls r.target (some l))) st.made x (λ y n. live y (w.0.made y n)) (new_live q start ways ls s e w.1 r m free x.f_score);
        heap = (push_held (λ i. i < length (st.made ++ x ∷ [])) (f_score_of (st.made ++ x ∷ [])) st.heap (length st.made) (λ i n. omega (arith, w.0.heap i n)) (omega arith)).every;
      },
      live e w.1,
    ))
    (λ h k. tt)

-- ---- at the goal

-- what is said of the cost and the roads that are found
pub record Finds (q : Query) (start : ℕ) (cost : Float) (roads : List Road) : Type 0 where
  pub leads : Leads q start roads q.goal
  pub few : length roads ≤ q.nodes - 1
  pub amount : Amount cost

abbrev pub Good : Query → ℕ → SearchEnd → Type 0
Good q start (found cost roads) = Finds q start cost roads
Good q start none_found = Unit {0}
Good q start full = Unit {0}

-- e, just taken, is at the goal
module _ (q : Query) (start : ℕ) (e : Entry) (st : State) (w : With q start e st) (there : e.node ≡ q.goal) where
  goal_label : label_at st.labels q.goal ≡ some w.1.label
  goal_label = subst (λ (v : ℕ). label_at st.labels v ≡ some w.1.label) there w.1.is

  reach : left q start st.labels w.0.sound q.goal ≤ q.nodes - 1
  reach = left_most q start st.labels w.0.sound q.goal w.1.label goal_label

  steps_enough : (steps : ℕ) → q.nodes - 1 ≤ steps → trace steps st.labels q.goal [] ≡ trace (q.nodes - 1) st.labels q.goal []
  steps_enough steps = trace_enough q start st.labels w.0.sound (q.nodes - 1) steps q.goal w.1.label goal_label [] reach

  found_there : Good q start (arrived (q.nodes - 1) q st)
  unfolding real_of
  found_there = record {
    leads = trace_leads q start st.labels w.0.sound (q.nodes - 1) q.goal w.1.label goal_label [] q.goal reach refl;
    few = omega (arith, trace_length (q.nodes - 1) st.labels q.goal []);
    amount = rw goal_label (w.0.sound.reals q.goal w.1.label goal_label);
  }

-- ---- the search

module _ (q : Query) (start : ℕ) (ways : Ways q) (slots : ℕ) where
  pub turn_inv : (st : State) → Inv q start st → StepsTo (Inv q start) (Good q start) (take_step (q.nodes - 1) slots q st.heap st)
  turn_inv st v = take_step_by (q.nodes - 1) slots q (StepsTo (Inv q start) (Good q start)) st tt (λ top rest h.
      let e = entry_at st.made top in
      let w = taken_inv q start st top rest v h in
      visit_keeps (q.nodes - 1) slots q (Inv q start) (Good q start) (With q start e) e (λ s x. x.0) tt (relax_inv q start ways slots e) (popped st) (found_there q start e (popped st) w) w)

  turn_same : (steps : ℕ) → q.nodes - 1 ≤ steps → (st : State) → Inv q start st → take_step steps slots q st.heap st ≡ take_step (q.nodes - 1) slots q st.heap st
  turn_same steps a st v = take_step_same steps (q.nodes - 1) slots q st (λ top rest h.
      let e = entry_at st.made top in
      visit_same steps (q.nodes - 1) slots q e (popped st) (λ there. steps_enough q start e (popped st) (taken_inv q start st top rest v h) there steps a))

  within_good : start < q.nodes → Good q start (search_within (q.nodes - 1) slots slots q start)
  unfolding search_within
  within_good h = run_keeps (q.nodes - 1) slots q (Inv q start) (Good q start) tt turn_inv slots (begun q start) (begun_inv q start h)

  within_enough : start < q.nodes → 1 ≤ slots → (steps turns : ℕ) → q.nodes - 1 ≤ steps → slots ≤ turns → search_within steps turns slots q start ≡ search_within (q.nodes - 1) slots slots q start
  unfolding search_within begun
  within_enough h one steps turns a b =
      run_enough slots q steps slots turns (begun q start) (omega arith) b
      ∙ run_same steps (q.nodes - 1) slots q (Inv q start) (Good q start) (turn_same steps a) turn_inv slots (begun q start) (begun_inv q start h)

pub search_good : (q : Query) (start : ℕ) → Ways q → (slots : ℕ) → start < q.nodes → Good q start (bounded_astar slots q start)
unfolding bounded_astar
search_good q start ways zero h = tt
search_good q start ways (suc k) h = within_good q start ways (suc k) h

search_enough : (q : Query) (start : ℕ) → Ways q → (slots : ℕ) → start < q.nodes → 1 ≤ slots → (steps turns : ℕ) → q.nodes - 1 ≤ steps → slots ≤ turns
    → search_within steps turns slots q start ≡ bounded_astar slots q start
unfolding bounded_astar
search_enough q start ways zero h one = absurd (omega arith)
search_enough q start ways (suc k) h one = within_enough q start ways (suc k) h one

pub search_theorem : SearchTheorem
search_theorem q start slots ways h one =
    let good = search_good q start ways slots h in
    record {
      leads = λ cost roads e. (subst (Good q start) e good).leads;
      few = λ cost roads e. (subst (Good q start) e good).few;
      cost = λ cost roads e. (subst (Good q start) e good).amount;
      enough = search_enough q start ways slots h one;
    }
