-- What lies between two nodes of a leg: nothing between a node and itself, else what a search finds.
use Rattle.std.proofs.Common.{◌≡◌, ℕ, zero, suc, ◌<◌, List, [], length, Some, refl, sym, subst, arith}
use Rattle.std.specs.Prelude.{Float}
use Rattle.std.proofs.lemmas.List.{nil_from_length}
use borrow.Author.Tests.{eq-eqb, ne_eqb}
use Rattle.model.specs.declared.Counts.{Counts}
use Rattle.model.specs.declared.Limits.{Limits}
use Rattle.model.specs.Numbers.{f0}
use Rattle.model.specs.Sheet.{Sheet}
use Rattle.model.specs.View.{view}
use Rattle.model.specs.Search.{found, none_found, full, bounded_astar}
use Rattle.model.specs.Search as astar
use Rattle.model.specs.Legs.{MiddleSearch}
use Rattle.model.specs.Decode.{query_of, middle_search}
use Rattle.rules.specs.declared.Middle.{Middle}
use Rattle.rules.specs.Code.{middle_in}
use Rattle.search.specs.declared.SearchEnd.{SearchEnd}
use Rattle.search.specs.declared.SearchEnd.TheVariants as S
use Rattle.search.specs.Query.{query_on}
use Rattle.search.specs.Areas.{LeadsBack, back_way}
use Rattle.search.specs.Answers.{told, roads_in, WayBack, Traced}
use Rattle.sheet.specs.Contents.{contents}
use Rattle.search.specs.declared.areas.SearchAreas.{SearchAreas}
use Rattle.legs.specs.Found.{middle_search_at, Led, LedBy}

module _ (t : Sheet) (slots : ℕ) (b : Limits) (start goal : ℕ) (bound : Float) where
  pub already_there : start ≡ goal → S.Found f0 0 ≡ told (middle_search_at t slots b start goal bound)
  unfolding middle_search_at middle_search told
  already_there h = rw (eq-eqb start goal h)

  pub searched : (start ≡ goal → ⊥) → bounded_astar slots (query_on t record { start = start; goal = goal; max_cost = bound; constraints = b.constraints }) start ≡ middle_search_at t slots b start goal bound
  unfolding query_on query_of view middle_search_at middle_search
  searched h = rw (ne_eqb start goal h)

-- ---- the marks

-- no roads lead back from a node to itself
none_back : (t : Sheet) (c : Counts) (goal : ℕ) (came : List ℕ) → goal < c.n → length came ≡ c.n → WayBack t c goal came 0 []
unfolding LeadsBack back_way
none_back t c goal came inside long = record { inside = inside; size = omega arith; few = omega arith; leads = tt; roads = refl }

pub led_there : (areas : SearchAreas) (slots : ℕ) (b : Limits) (start goal : ℕ) (bound : Float) → start ≡ goal → goal < areas.sheet.counts.n → length areas.came_from.now ≡ areas.sheet.counts.n
    → LedBy goal areas (S.Found f0 0) (roads_in (middle_search_at (contents areas.sheet) slots b start goal bound))
unfolding middle_search_at middle_search roads_in Traced
led_there areas slots b start goal bound h inside long = rw (eq-eqb start goal h) (none_back (contents areas.sheet) areas.sheet.counts goal areas.came_from.now inside long)

-- ---- once more

-- what is told of a way with k roads: found, with k roads
pub found_again : (f : astar.SearchEnd) (k : ℕ) → 0 < k → length (roads_in f) ≡ k → (cost : Float) × (S.Found cost k ≡ told f)
unfolding roads_in told
found_again (found cost way) k some e = (cost, rw e)
found_again none_found k some e = absurd (omega (arith, e))
found_again full k some e = absurd (omega (arith, e))

-- so the marks lead back over the k roads found; where there are none, whatever the search tells
led_back : (areas : SearchAreas) (goal : ℕ) (f : astar.SearchEnd) (k : ℕ) → goal < areas.sheet.counts.n → length areas.came_from.now ≡ areas.sheet.counts.n → length (roads_in f) ≡ k
    → LedBy goal areas (told f) (roads_in f) → WayBack (contents areas.sheet) areas.sheet.counts goal areas.came_from.now k (roads_in f)
unfolding Traced
led_back areas goal f zero inside long is led = rw (nil_from_length (roads_in f) is) (none_back (contents areas.sheet) areas.sheet.counts goal areas.came_from.now inside long)
led_back areas goal f (suc k) inside long is led = subst (λ (m : SearchEnd). LedBy goal areas m (roads_in f)) (sym (found_again f (suc k) (omega arith) is).1) led

pub led_again : (search : MiddleSearch) (areas : SearchAreas) (m : Middle) (r : SearchEnd) → m.goal < areas.sheet.counts.n → length areas.came_from.now ≡ areas.sheet.counts.n → length (roads_in (search m.start m.goal m.bound)) ≡ m.count
    → r ≡ told (search m.start m.goal m.bound) → LedBy m.goal areas r (roads_in (search m.start m.goal m.bound)) → Led search areas (Some m)
unfolding middle_in
led_again search areas m r inside long count is led = led_back areas m.goal (search m.start m.goal m.bound) m.count inside long count (rw is at led)
