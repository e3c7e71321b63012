-- The goal rows of the parsed sheet: their nodes rise, so the row that names a node has the distances to it.
use Prim.Native.Nat.{ℕ, zero, suc, ◌+◌, ◌-◌, ◌*◌, ◌≤◌, ◌<◌}
use mathlib.Core.Path.{◌≡◌, refl, sym, ap, subst, ◌∙◌}
use mathlib.Core.List.{List, [], ◌∷◌}
use native.Mathlib.Nat.{not-suc-le-zero, le_of_suc-le-suc, zero-add, add-zero}
use native.Mathlib.Omega.{arith}
use lib.ListN.{length, get_or}
use lib.Ieee.{Float}
use borrow.Author.Tests.{ltb-true, eq-eqb, ne_eqb}
use Rattle.model.specs.declared.Counts.{Counts}
use Rattle.model.specs.Numbers.{f0}
use Rattle.model.specs.Lists.{tabulate}
use Rattle.model.specs.Bytes.{f64_at}
use Rattle.model.specs.Layout.{distances_at, goals_at, goal_width, distances_bytes}
use Rattle.model.specs.Judge.{WellFormed, goal_node, goal_rises, rows_good}
use Rattle.model.specs.Sheet.{Goal, Sheet, goal_of, sheet_of}
use Rattle.model.specs.View.{distances_to, view}
use Rattle.model.proofs.Members.{getD_table}
use Rattle.model.proofs.Sections.{u32_section, f64_section}
use Rattle.model.proofs.Judging.{all_of_at}
use Rattle.model.proofs.Listed.{every_at}
use Rattle.model.proofs.Turns.{below_times}
use Rattle.sheet.specs.Goals.{no_goal, goal_at}
use Rattle.sheet.proofs.Halving.{Rises}

-- ---- the distances to a node are those of the first goal row that names it

to_nil : (v : ℕ) → distances_to [] v ≡ []
unfolding distances_to
to_nil v = refl

module _ (x : Goal) (xs : List Goal) (v : ℕ) where
  to_here : x.node ≡ v → distances_to (x ∷ xs) v ≡ x.distances
  unfolding distances_to
  to_here e = rw (eq-eqb x.node v e)

  to_later : (x.node ≡ v → ⊥) → distances_to (x ∷ xs) v ≡ distances_to xs v
  unfolding distances_to
  to_later ne = rw (ne_eqb x.node v ne)

module _ (f : ℕ → Goal) (v : ℕ) where
  to_tab : (n i k : ℕ) → k < n → (f (i + k)).node ≡ v → ((j : ℕ) → j < k → (f (i + j)).node ≡ v → ⊥) → distances_to (tabulate n i f) v ≡ (f (i + k)).distances
  unfolding tabulate
  to_tab zero i k h e before = absurd (not-suc-le-zero h)
  to_tab (suc n) i zero h e before =
      let there : i + 0 ≡ i = add-zero i in
      to_here (f i) _ v (rw there at e) ∙ ap (λ (m : ℕ). (f m).distances) (sym there)
  to_tab (suc n) i (suc k) h e before =
      let there : i + suc k ≡ i + 1 + k = omega arith in
      to_later (f i) _ v (λ p. before 0 (omega arith) (subst (λ (m : ℕ). (f m).node ≡ v) (sym (add-zero i)) p))
      ∙ to_tab n (i + 1) k (le_of_suc-le-suc h) (rw there at e) (λ j hj p. before (suc j) (omega arith) (subst (λ (m : ℕ). (f m).node ≡ v) {x = i + 1 + j} {y = i + suc j} (omega arith) p))
      ∙ ap (λ (m : ℕ). (f m).distances) (sym there)

  to_none : (n i : ℕ) → ((j : ℕ) → j < n → (f (i + j)).node ≡ v → ⊥) → distances_to (tabulate n i f) v ≡ []
  unfolding tabulate
  to_none zero i never = to_nil v
  to_none (suc n) i never =
      to_later (f i) _ v (λ p. never 0 (omega arith) (subst (λ (m : ℕ). (f m).node ≡ v) (sym (add-zero i)) p))
      ∙ to_none n (i + 1) (λ j hj p. never (suc j) (omega arith) (subst (λ (m : ℕ). (f m).node ≡ v) {x = i + 1 + j} {y = i + suc j} (omega arith) p))

-- ---- the goal rows of a sheet

module _ (s : List ℕ) (c : Counts) where
  abbrev goal : ℕ → Goal
  goal k = goal_of (distances_bytes s c) c.n k

  goal_is : (k : ℕ) → k < c.g → goal_at (sheet_of s c) k ≡ goal k
  unfolding sheet_of
  goal_is k h = getD_table c.g (goal_of (distances_bytes s c) c.n) k no_goal h

  node_is : (k : ℕ) → k < c.g → (goal k).node ≡ goal_node s c k
  unfolding goal_of goal_node
  node_is k h =
      u32_section s (distances_at c) ((c.n + c.n) * 8 + c.g * goal_width c.n) ((c.n + c.n) * 8 + k * goal_width c.n) (goals_at c + k * goal_width c.n + 0)
      (omega (arith, below_times k c.g (goal_width c.n) h))
      (omega arith)

  -- the distance from node v in goal row k
  pub goal_distance_is : (k : ℕ) → k < c.g → (v : ℕ) → v < c.n → get_or (goal_at (sheet_of s c) k).distances v f0 ≡ f64_at s (goals_at c + k * goal_width c.n + 8 + v * 8)
  unfolding goal_of
  goal_distance_is k h v hv =
      ap (λ (x : Goal). get_or x.distances v f0) (goal_is k h)
      ∙ getD_table c.n (λ u. f64_at (distances_bytes s c) ((c.n + c.n) * 8 + k * goal_width c.n + 8 + u * 8)) v f0 hv
      ∙ f64_section s (distances_at c) ((c.n + c.n) * 8 + c.g * goal_width c.n) ((c.n + c.n) * 8 + k * goal_width c.n + 8 + v * 8) (goals_at c + k * goal_width c.n + 8 + v * 8)
      (omega (arith, below_times k c.g (goal_width c.n) h))
      (omega arith)

  module _ (ok : WellFormed s c) where
    -- goal row k lies in the sheet
    pub goal_within : (k : ℕ) → k < c.g → goals_at c + k * goal_width c.n + goal_width c.n ≤ length s
    goal_within k h = omega (arith, ok.sound.whole, below_times k c.g (goal_width c.n) h)

    goal_step : (k : ℕ) → k + 1 < c.g → goal_node s c k < goal_node s c (k + 1)
    unfolding rows_good
    goal_step k h = ltb-true _ _ (rw zero-add at (every_at (goal_rises s c) (c.g - 1) 0 (all_of_at _ ok.rows 2) k (omega arith)))

    goal_add : (k d : ℕ) → k + d + 1 < c.g → goal_node s c k < goal_node s c (k + d + 1)
    goal_add k zero h = rw add-zero (goal_step k (omega arith))
    goal_add k (suc d) h =
        let there : k + suc d ≡ k + d + 1 = omega arith in
        rw there (omega (arith, goal_add k d (omega arith), goal_step (k + d + 1) (omega arith)))

    -- the nodes of the goal rows rise
    pub goals_rise : Rises (goal_node s c) c.g
    goals_rise i j l h =
        let there : i + (j - i - 1) + 1 ≡ j = omega arith in
        rw there at (goal_add i (j - i - 1) (omega arith))

    -- a row that names v has the distances to v
    pub goal_found : (v k : ℕ) → k < c.g → goal_node s c k ≡ v → (goal_at (sheet_of s c) k).distances ≡ distances_to (sheet_of s c).goals v
    unfolding sheet_of
    goal_found v k h e =
        let here : (goal (0 + k)).node ≡ v = rw zero-add (node_is k h ∙ e) in
        let before : (j : ℕ) → j < k → (goal (0 + j)).node ≡ v → ⊥ = λ j hj p. omega (arith, goals_rise j k hj h, sym (node_is j (omega arith)) ∙ rw zero-add at p) in
        ap (λ (x : Goal). x.distances) (goal_is k h) ∙ sym (rw zero-add at (to_tab goal v c.g 0 k h here before))

  -- where no row names v, there are none
  pub goal_missing : (v : ℕ) → ((k : ℕ) → k < c.g → goal_node s c k ≡ v → ⊥) → distances_to (sheet_of s c).goals v ≡ []
  unfolding sheet_of
  goal_missing v never = to_none goal v c.g 0 (λ j h p. never j h (sym (node_is j h) ∙ rw zero-add at p))

-- ---- the view

module _ (t : Sheet) (v : ℕ) where
  pub to_goal_at : (k : ℕ) → (goal_at t k).distances ≡ distances_to t.goals v → (u : ℕ) → get_or (goal_at t k).distances u f0 ≡ (view t).to_goal v u
  unfolding view
  to_goal_at k e u = ap (λ (ds : List Float). get_or ds u f0) e

  pub to_goal_missing : distances_to t.goals v ≡ [] → (u : ℕ) → f0 ≡ (view t).to_goal v u
  unfolding view
  to_goal_missing e u = sym (ap (λ (ds : List Float). get_or ds u f0) e)
