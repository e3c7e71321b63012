-- The roads that a search may be given, and what it means that roads lead from a node to a node.
use Rattle.std.specs.Prelude.{ℕ, ◌<◌, ◌≡◌, List, [], ◌∷◌}
use Rattle.model.specs.declared.Road.{Road}
use Rattle.model.specs.Lists.{In}
use Rattle.model.specs.Search.{Query}
use Rattle.bounds.specs.Amounts.{Finite, Amount}

-- What a well-formed sheet gives a search: a node's roads leave it and end at a node; lengths and penalties have their sign clear.
pub record WayFacts (q : Query) (v : ℕ) (r : Road) : Type 0 where
  pub source : r.source ≡ v
  pub target : r.target < q.nodes
  pub length_m : Finite r.length_m

pub record Ways (q : Query) : Type 0 where
  pub roads : (v : ℕ) (r : Road) → In r (q.leaving v) → WayFacts q v r
  pub penalties : (r : Road) → Amount (q.penalty r)

-- the roads rs lead from u to v, each permitted where it leaves
abbrev pub Leads : Query → ℕ → List Road → ℕ → Type 0
Leads q u [] v = u ≡ v
Leads q u (r ∷ rs) v = (r.source ≡ u) × In r (q.leaving u) × Leads q r.target rs v
