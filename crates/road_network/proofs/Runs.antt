-- A run of numbers taken one by one, and the first of them that passes a test, as std finds it.
use Prim.Native.Nat.{ℕ, zero, suc, ◌+◌, ◌-◌, ◌≤◌, ◌<◌}
use mathlib.Core.Path.{◌≡◌, refl, sym, ap, subst, ◌∙◌}
use mathlib.Core.Bool.{Bool, true, false, cond}
use mathlib.Core.Option.{some}
use mathlib.Core.List.Memᴰ
use mathlib.Core.List.{List, [], ◌∷◌, map}
use native.Mathlib.Omega.{arith}
use Rattle.std.specs.Prelude.{Option, Some, option_map}
use Rattle.std.specs.List as std
use Rattle.std.proofs.lemmas.Iterator.Adapters.{option_map_id}
use Rattle.model.specs.Lists.{In, find, tabulate}
use Rattle.model.proofs.Members.{here}
use Rattle.road_network.specs.Graph.{Forces}

-- a run from place j up to e: the first of it, and the run from the next place
pub run_step : {A : Type 0} (g : ℕ → A) {e j : ℕ} → j < e → tabulate (e - j) j g ≡ g j ∷ tabulate (e - (j + 1)) (j + 1) g
unfolding tabulate
run_step g {e} {j} h = ap (λ (k : ℕ). tabulate k j g) {x = e - j} {y = suc (e - (j + 1))} (omega arith)

pub run_end : {A : Type 0} (g : ℕ → A) {e j : ℕ} → e ≤ j → tabulate (e - j) j g ≡ []
unfolding tabulate
run_end g {e} {j} h = ap (λ (k : ℕ). tabulate k j g) {x = e - j} {y = zero} (omega arith)

-- std's run of numbers
pub run_is : {A : Type 0} (g : ℕ → A) (n j : ℕ) → tabulate n j g ≡ map g (std.range_with_len j n)
unfolding tabulate
run_is g zero j = refl
run_is g (suc n) j = ap (λ xs. g j ∷ xs) (run_is g n (j + 1))

module _ (p : ℕ → Bool) {e : ℕ} where
  finds : (xs : List ℕ) → ((x : ℕ) → In x xs → x < e) → Forces (find p xs) e (std.find p xs)
  unfolding find
  finds [] h = refl
  finds (x ∷ xs) h = go (p x) (finds xs (λ y m. h y (Memᴰ.tail m)))
    where
      go : (b : Bool) → Forces (find p xs) e (std.find p xs) → Forces (cond b (some x) (find p xs)) e (cond b (Some x) (std.find p xs))
      go true rest = (refl, h x here)
      go false rest = rest

  -- what std finds in a list of road numbers is what is sought
  pub found : (xs : List ℕ) (o : Option ℕ) → ((x : ℕ) → In x xs → x < e) → option_map (λ x. x) o ≡ std.find p xs → Forces (find p xs) e o
  found xs o h q = subst (Forces (find p xs) e) (sym q ∙ option_map_id o) (finds xs h)
