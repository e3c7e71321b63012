-- The entry that a turn takes: at the goal, stale, or its roads are tried, as the definition has it.
use Prim.Native.Nat.{ℕ, ◌<◌}
use mathlib.Core.Path.{◌≡◌, refl, sym, ap, ◌∙◌}
use mathlib.Core.Logic.{◌≢◌}
use mathlib.Core.Bool.{Bool, true, false}
use mathlib.Core.Option.{Option, none, some}
use mathlib.Core.List.{List}
use lib.ListN.{get_or}
use lib.Ieee.{Float, nan}
use Rattle.std.specs.Prelude.{Result, Ok, Err, IsErr}
use Rattle.model.specs.Numbers.{◌<ᶠ◌}
use Rattle.model.specs.Sheet.{road_at}
use Rattle.model.specs.Search.{Query, Label, Entry, State, label_at, stale, relax_all, stop, more, full, expanded, visit}
use Rattle.sheet.specs.Contents.{contents}
use Rattle.bounds.proofs.Turns.{visit_arrived, visit_stale, visit_opened}
use Rattle.search.specs.declared.HeapFull.{HeapFull}
use Rattle.search.specs.declared.areas.Entry as code
use Rattle.search.specs.declared.areas.SearchAreas.{SearchAreas}
use Rattle.search.specs.declared.costs.Search.{Search}
use Rattle.search.specs.Query.{query_on, query_at}
use Rattle.search.specs.Areas.{columns, state_at, Reached}
use Rattle.search.specs.Answers.{entry_as, arrived, step_of, end_of_search}
use Rattle.search.proofs.Labels.{label_is, stale_reached}

module _ (s : Search) (a : SearchAreas) (entry : code.Entry) (steps : ℕ) where
  abbrev q : Query
  q = query_at s

  abbrev x : Entry
  x = entry_as entry

  abbrev st : State
  st = state_at s.sheet a

  pub visit_found : x.node ≡ s.query.goal → stop (arrived steps q st.labels) ≡ visit steps a.slots q x st
  unfolding query_on
  visit_found h = sym (visit_arrived steps a.slots q x st h)

  module _ (other : x.node ≢ s.query.goal) (inside : x.node < s.sheet.counts.n) (reached : Reached (columns a) x.node) {kept : Float} (labelled : get_or a.penalised.now x.node nan ≡ kept) where
    -- it was made before a better label
    stale_is : stale (label_at st.labels x.node) x.g_score ≡ (kept <ᶠ x.g_score)
    stale_is =
        let roads = road_at (contents s.sheet) in
        ap (λ (l : Option Label). stale l x.g_score) (label_is roads s.sheet.counts.n a.real.now a.penalised.now a.came_from.now x.node inside)
        ∙ stale_reached roads (get_or a.real.now x.node nan) (get_or a.penalised.now x.node nan) (get_or a.came_from.now x.node 0) x.g_score reached
        ∙ ap (λ (y : Float). y <ᶠ x.g_score) labelled

    pub visit_old : (kept <ᶠ x.g_score) ≡ true → more st ≡ visit steps a.slots q x st
    unfolding query_on
    visit_old old = sym (visit_stale steps a.slots q x st other (stale_is ∙ old))

    module _ (fresh : (kept <ᶠ x.g_score) ≡ false) {o : Option State} (is : o ≡ relax_all a.slots q x (q.leaving x.node) st) where
      opened : expanded o ≡ visit steps a.slots q x st
      unfolding query_on
      opened = ap expanded is ∙ sym (visit_opened steps a.slots q x st other (stale_is ∙ fresh))

      pub visit_on : {t : State} → o ≡ some t → more t ≡ visit steps a.slots q x st
      unfolding expanded
      visit_on h = rw h at opened

      pub visit_full : o ≡ none → stop full ≡ visit steps a.slots q x st
      unfolding expanded
      visit_full h = rw h at opened

-- a slot was missing
pub stopped : (steps : ℕ) (q : Query) (o : Result Bool HeapFull) (st : State) → IsErr o → step_of steps q o st ≡ stop full
stopped steps q (Ok b) st h = cc
stopped steps q (Err e) st h = refl

pub ended : (steps : ℕ) (q : Query) (o : Result Bool HeapFull) (ls : List (Option Label)) → IsErr o → end_of_search steps q o ls ≡ full
ended steps q (Ok b) ls h = cc
ended steps q (Err e) ls h = refl
