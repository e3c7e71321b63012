-- What a walk leaves in the room behind a path.
use Rattle.std.specs.Prelude.{ℕ, ◌*◌, ◌≤◌, ◌<◌, ◌≡◌, List, take, Some, None}
use Rattle.std.specs.Prelude as std
use Rattle.std.proofs.Math.Option.{Option, none, some}
use Rattle.model.specs.Ends.{Walk}
use Rattle.search.specs.Answers.{RoadNumbers}
use Rattle.ends.specs.declared.walks.Extension.{Extension}

-- the roads added: at least one, at most two for each of the n nodes; e roads
pub record Added (o : Option Walk) (n e : ℕ) (room : List ℕ) (x : Extension) : Type 0 where
  pub is : o ≡ some (record { added = take x.count room; added_m = x.metres })
  pub some_added : 0 < x.count
  pub few : x.count ≤ 2 * n
  pub numbers : RoadNumbers e x.count room

abbrev pub ExtensionHeld : Option Walk → ℕ → ℕ → List ℕ → std.Option Extension → Type 0
ExtensionHeld o n e room (Some x) = Added o n e room x
ExtensionHeld o n e room None = o ≡ none
