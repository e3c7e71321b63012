-- What a road, an entry and a turn come to, and that the search keeps what each keeps; a turn takes one entry and no more are made than slots, so the turns are enough.
use Prim.Native.Nat.{ℕ, zero, suc, ◌+◌, ◌-◌, ◌≤◌, ◌<◌}
use mathlib.Core.Path.{◌≡◌, refl, sym, ap, ◌∙◌}
use mathlib.Core.Logic.{◌⊎◌, inl, inr, ◌≢◌}
use mathlib.Core.Bool.{Bool, true, false, ◌||◌}
use mathlib.Core.Option.{Option, none, some}
use mathlib.Core.List.Memᴰ
use mathlib.Core.List.{List, [], ◌∷◌, ◌++◌}
use native.Mathlib.Omega.{arith}
use lib.ListN.{length, set, length-append}
use borrow.Author.Tests.{lt-ltb, le-ltb, eq-eqb, ne_eqb}
use Rattle.model.specs.declared.Road.{Road}
use Rattle.model.specs.Numbers.{◌⊕◌, ◌<ᶠ◌}
use Rattle.model.specs.Lists.{In, when, maybe}
use Rattle.model.specs.Heap.{push, pop}
use Rattle.model.specs.Search.{Query, SearchEnd, found, none_found, full, Label, Entry, State, label_at, entry_at, f_score_of, real_of, dominated, stale, offered, entered, relax, relax_all, trace, Step, stop, more, expanded, visit, take_step, onward, run}
use Rattle.model.proofs.Members.{here}
use Rattle.bounds.proofs.Choices.{same_or_other, below_or_not}
use Rattle.bounds.proofs.HeapLaws.{length_push, length_pop}

-- ---- one road: refused, entered, or no slot is left

-- the label that r would give its target, whether it is refused, and the state with a label l at v and its entry
abbrev pub offer : Query → Entry → List (Option Label) → Road → Label
offer q e ls r = record { real = real_of (label_at ls e.node) ⊕ r.length_m; penalised = e.g_score ⊕ r.length_m ⊕ q.penalty r; came_from = some r }

abbrev pub refused : Query → Entry → List (Option Label) → Road → Bool
refused q e ls r = q.max_cost <ᶠ (offer q e ls r).real || dominated (label_at ls r.target) (offer q e ls r).penalised

abbrev pub entry_for : Query → ℕ → Label → Entry
entry_for q v l = record { f_score = l.penalised ⊕ q.heuristic v; g_score = l.penalised; node = v }

abbrev pub with_label : Query → State → ℕ → Label → State
with_label q st v l =
    let made = st.made ++ entry_for q v l ∷ [] in
    record { labels = set st.labels v (some l); made = made; heap = push (f_score_of made) st.heap (length st.made) }

module _ (slots : ℕ) (q : Query) (st : State) (v : ℕ) (l : Label) where
  pub entered_some : length st.made < slots → entered slots q st v l ≡ some (with_label q st v l)
  unfolding entered when
  entered_some h = rw (lt-ltb (length st.made) slots h, when)

  pub entered_none : slots ≤ length st.made → entered slots q st v l ≡ none
  unfolding entered when
  entered_none h = rw (le-ltb (length st.made) slots h, when)

module _ (q : Query) (e : Entry) (ls : List (Option Label)) (r : Road) where
  pub offered_none : refused q e ls r ≡ true → offered q e ls r ≡ none
  unfolding offered
  offered_none h = rw h

  pub offered_some : refused q e ls r ≡ false → offered q e ls r ≡ some (offer q e ls r)
  unfolding offered
  offered_some h = rw h

module _ (slots : ℕ) (q : Query) (e : Entry) (st : State) (r : Road) where
  pub relax_kept : refused q e st.labels r ≡ true → relax slots q e st r ≡ some st
  unfolding relax maybe
  relax_kept h = rw (offered_none q e st.labels r h, maybe)

  pub relax_entered : refused q e st.labels r ≡ false → length st.made < slots → relax slots q e st r ≡ some (with_label q st r.target (offer q e st.labels r))
  unfolding relax maybe
  relax_entered h k = rw (offered_some q e st.labels r h, maybe) (entered_some slots q st r.target (offer q e st.labels r) k)

  pub relax_full : refused q e st.labels r ≡ false → slots ≤ length st.made → relax slots q e st r ≡ none
  unfolding relax maybe
  relax_full h k = rw (offered_some q e st.labels r h, maybe) (entered_none slots q st r.target (offer q e st.labels r) k)

  -- what holds of each outcome holds of `relax`
  pub relax_by : (P : Option State → Type 0) → (refused q e st.labels r ≡ true → P (some st))
      → (refused q e st.labels r ≡ false → length st.made < slots → P (some (with_label q st r.target (offer q e st.labels r)))) → (refused q e st.labels r ≡ false → slots ≤ length st.made → P none)
      → P (relax slots q e st r)
  relax_by P kept grown none_left = go (refused q e st.labels r) refl (below_or_not (length st.made) slots)
    where
      go : (b : Bool) → refused q e st.labels r ≡ b → (length st.made < slots) ⊎ (slots ≤ length st.made) → P (relax slots q e st r)
      go true h k = rw (relax_kept h) (kept h)
      go false h (inl k) = rw (relax_entered h k) (grown h k)
      go false h (inr k) = rw (relax_full h k) (none_left h k)

-- ---- all roads of an entry

-- what holds of the state, if there is one
abbrev pub Kept : (State → Type 0) → Option State → Type 0
Kept Inv none = Unit {0}
Kept Inv (some st) = Inv st

module _ (Inv : State → Type 0) (slots : ℕ) (q : Query) (e : Entry) where
  pub relax_all_keeps : (rs : List Road) → ((r : Road) → In r rs → (st : State) → Inv st → Kept Inv (relax slots q e st r)) → (st : State) → Inv st → Kept Inv (relax_all slots q e rs st)
  unfolding relax_all maybe
  relax_all_keeps [] step st i = i
  relax_all_keeps (r ∷ rs) step st i = go (relax slots q e st r) (step r here st i) (relax_all_keeps rs (λ x m. step x (Memᴰ.tail m)))
    where
      go : (o : Option State) → Kept Inv o → ((s : State) → Inv s → Kept Inv (relax_all slots q e rs s)) → Kept Inv (maybe o none (relax_all slots q e rs))
      go none k ih = tt
      go (some s) k ih = ih s k

-- ---- one turn: at the goal, stale, or its roads are tried

-- without the entry that the turn takes
abbrev pub popped : State → State
popped st = record { labels = st.labels; made = st.made; heap = pop (f_score_of st.made) st.heap }

-- what holds of the answer or of the next state
abbrev pub StepsTo : (State → Type 0) → (SearchEnd → Type 0) → Step → Type 0
StepsTo Inv Good (stop f) = Good f
StepsTo Inv Good (more st) = Inv st

-- what is found at the goal
abbrev pub arrived : ℕ → Query → State → SearchEnd
arrived steps q st = found (real_of (label_at st.labels q.goal)) (trace steps st.labels q.goal [])

module _ (steps slots : ℕ) (q : Query) (e : Entry) (st : State) where
  pub visit_arrived : e.node ≡ q.goal → visit steps slots q e st ≡ stop (arrived steps q st)
  unfolding visit
  visit_arrived h = rw (eq-eqb e.node q.goal h)

  pub visit_stale : e.node ≢ q.goal → stale (label_at st.labels e.node) e.g_score ≡ true → visit steps slots q e st ≡ more st
  unfolding visit
  visit_stale h k = rw (ne_eqb e.node q.goal h, k)

  pub visit_opened : e.node ≢ q.goal → stale (label_at st.labels e.node) e.g_score ≡ false → visit steps slots q e st ≡ expanded (relax_all slots q e (q.leaving e.node) st)
  unfolding visit
  visit_opened h k = rw (ne_eqb e.node q.goal h, k)

  -- what holds of each outcome holds of `visit`
  pub visit_by : (P : Step → Type 0) → (e.node ≡ q.goal → P (stop (arrived steps q st))) → (e.node ≢ q.goal → stale (label_at st.labels e.node) e.g_score ≡ true → P (more st))
      → (e.node ≢ q.goal → stale (label_at st.labels e.node) e.g_score ≡ false → P (expanded (relax_all slots q e (q.leaving e.node) st))) → P (visit steps slots q e st)
  visit_by P there old opened = go (same_or_other e.node q.goal) (stale (label_at st.labels e.node) e.g_score) refl
    where
      go : (e.node ≡ q.goal) ⊎ (e.node ≢ q.goal) → (b : Bool) → stale (label_at st.labels e.node) e.g_score ≡ b → P (visit steps slots q e st)
      go (inl h) b k = rw (visit_arrived h) (there h)
      go (inr h) true k = rw (visit_stale h k) (old h k)
      go (inr h) false k = rw (visit_opened h k) (opened h k)

module _ (steps slots : ℕ) (q : Query) where
  -- what holds of an empty heap and of a taken entry holds of `take_step`
  pub take_step_by : (P : Step → Type 0) (st : State) → P (stop none_found) → ((top : ℕ) (rest : List ℕ) → st.heap ≡ top ∷ rest → P (visit steps slots q (entry_at st.made top) (popped st))) → P (take_step steps slots q st.heap st)
  unfolding take_step
  take_step_by P st empty taken = go st.heap taken
    where
      go : (h : List ℕ) → ((top : ℕ) (rest : List ℕ) → h ≡ top ∷ rest → P (visit steps slots q (entry_at st.made top) (popped st))) → P (take_step steps slots q h st)
      go [] taken = empty
      go (top ∷ rest) taken = taken top rest refl

-- Good holds where e is at the goal, and With, from which Inv follows, of every state while the roads of e are tried.
pub visit_keeps : (steps slots : ℕ) (q : Query) (Inv : State → Type 0) (Good : SearchEnd → Type 0) (With : State → Type 0) (e : Entry) → ((st : State) → With st → Inv st) → Good full
    → ((r : Road) → In r (q.leaving e.node) → (st : State) → With st → Kept With (relax slots q e st r)) → (st : State) → (e.node ≡ q.goal → Good (arrived steps q st)) → With st
    → StepsTo Inv Good (visit steps slots q e st)
unfolding expanded
visit_keeps steps slots q Inv Good With e weaken none_left road st there w =
    let rs = q.leaving e.node in
    visit_by steps slots q e st (StepsTo Inv Good) there (λ h k. weaken st w) (λ h k. go (relax_all slots q e rs st) (relax_all_keeps With slots q e rs road st w))
  where
    go : (o : Option State) → Kept With o → StepsTo Inv Good (expanded o)
    go none k = none_left
    go (some s) k = weaken s k

-- after a step that keeps Inv: what holds of the rest holds of the whole, and equal rests make equal wholes
onward_keeps : (Inv : State → Type 0) (Good : SearchEnd → Type 0) (s : Step) (next : State → SearchEnd) → StepsTo Inv Good s → ((st : State) → Inv st → Good (next st)) → Good (onward s next)
unfolding onward
onward_keeps Inv Good (stop f) next k h = k
onward_keeps Inv Good (more st) next k h = h st k

pub onward_same : (Inv : State → Type 0) (Good : SearchEnd → Type 0) (s : Step) (f g : State → SearchEnd) → StepsTo Inv Good s → ((st : State) → Inv st → f st ≡ g st) → onward s f ≡ onward s g
unfolding onward
onward_same Inv Good (stop x) f g k h = refl
onward_same Inv Good (more st) f g k h = h st k

-- what every turn keeps, the search keeps
pub run_keeps : (steps slots : ℕ) (q : Query) (Inv : State → Type 0) (Good : SearchEnd → Type 0) → Good none_found → ((st : State) → Inv st → StepsTo Inv Good (take_step steps slots q st.heap st)) → (k : ℕ) (st : State) → Inv st → Good (run steps k slots q st)
unfolding run
run_keeps steps slots q Inv Good g turn zero st i = g
run_keeps steps slots q Inv Good g turn (suc k) st i = onward_keeps Inv Good (take_step steps slots q st.heap st) (run steps k slots q) (turn st i) (run_keeps steps slots q Inv Good g turn k)

-- ---- other bounds on the steps of the walk back

module _ (i j slots : ℕ) (q : Query) where
  pub visit_same : (e : Entry) (st : State) → (e.node ≡ q.goal → trace i st.labels q.goal [] ≡ trace j st.labels q.goal []) → visit i slots q e st ≡ visit j slots q e st
  visit_same e st same =
      visit_by i slots q e st (λ s. s ≡ visit j slots q e st) (λ h. ap (λ (rs : List Road). stop (found (real_of (label_at st.labels q.goal)) rs)) (same h) ∙ sym (visit_arrived j slots q e st h))
      (λ h k. sym (visit_stale j slots q e st h k)) (λ h k. sym (visit_opened j slots q e st h k))

  pub take_step_same : (st : State) → ((top : ℕ) (rest : List ℕ) → st.heap ≡ top ∷ rest → visit i slots q (entry_at st.made top) (popped st) ≡ visit j slots q (entry_at st.made top) (popped st)) → take_step i slots q st.heap st ≡ take_step j slots q st.heap st
  unfolding take_step
  take_step_same st = go st.heap
    where
      go : (h : List ℕ) → ((top : ℕ) (rest : List ℕ) → h ≡ top ∷ rest → visit i slots q (entry_at st.made top) (popped st) ≡ visit j slots q (entry_at st.made top) (popped st)) → take_step i slots q h st ≡ take_step j slots q h st
      go [] same = refl
      go (top ∷ rest) same = same top rest refl

  -- searches whose turns are the same are the same
  pub run_same : (Inv : State → Type 0) (Good : SearchEnd → Type 0) → ((st : State) → Inv st → take_step i slots q st.heap st ≡ take_step j slots q st.heap st) → ((st : State) → Inv st → StepsTo Inv Good (take_step j slots q st.heap st)) → (k : ℕ) (st : State) → Inv st → run i k slots q st ≡ run j k slots q st
  unfolding run
  run_same Inv Good same turn zero st v = refl
  run_same Inv Good same turn (suc k) st v =
      ap (λ (s : Step). onward s (run i k slots q)) (same st v)
      ∙ onward_same Inv Good (take_step j slots q st.heap st) (run i k slots q) (run j k slots q) (turn st v) (run_same Inv Good same turn k)

-- ---- the turns

-- the entries in the heap and the free slots
abbrev pub room : ℕ → State → ℕ
room slots st = length st.heap + (slots - length st.made)

module _ (slots : ℕ) (q : Query) where
  -- no more than n of them; nothing is asked of an answer
  abbrev Within : ℕ → State → Type 0
  Within n st = room slots st ≤ n

  abbrev Any : SearchEnd → Type 0
  Any f = Unit {0}

  relax_room : (n : ℕ) (e : Entry) (r : Road) (st : State) → Within n st → Kept (Within n) (relax slots q e st r)
  relax_room n e r st h =
      relax_by slots q e st r (Kept (Within n)) (λ k. h)
      (λ k l. let x = entry_for q r.target (offer q e st.labels r) in omega (arith, length_push (f_score_of (st.made ++ x ∷ [])) st.heap (length st.made), length-append st.made (x ∷ [])))
      (λ k l. tt)

  visit_room : (n steps : ℕ) (e : Entry) (st : State) → Within n st → StepsTo (Within n) Any (visit steps slots q e st)
  visit_room n steps e st h = visit_keeps steps slots q (Within n) Any (Within n) e (λ s k. k) tt (λ r m. relax_room n e r) st (λ t. tt) h

  -- a turn takes one entry
  take_step_room : (n steps : ℕ) (st : State) → Within (suc n) st → StepsTo (Within n) Any (take_step steps slots q st.heap st)
  take_step_room n steps st h =
      take_step_by steps slots q (StepsTo (Within n) Any) st tt
      (λ top rest e. visit_room n steps (entry_at st.made top) (popped st) (omega (arith, length_pop (f_score_of st.made) st.heap, ap length e)))

  -- turns that reach are enough
  pub run_enough : (steps n k : ℕ) (st : State) → room slots st ≤ n → n ≤ k → run steps k slots q st ≡ run steps n slots q st
  unfolding run onward
  run_enough steps zero zero st h a = refl
  run_enough steps zero (suc k) st h a = take_step_by steps slots q (λ s. onward s (run steps k slots q) ≡ none_found) st refl (λ top rest e. absurd (omega (arith, ap length e)))
  run_enough steps (suc n) zero st h a = absurd (omega arith)
  run_enough steps (suc n) (suc k) st h a =
      onward_same (Within n) Any (take_step steps slots q st.heap st) (run steps k slots q) (run steps n slots q) (take_step_room n steps st h) (λ s i. run_enough steps n k s i (omega arith))
