-- What the answer "room enough" says of what is lent: five facts, each a test of the row.
use Prim.Native.Nat.{ℕ, ◌≤◌}
use mathlib.Core.Path.{◌≡◌}
use mathlib.Core.Bool.{true}
use lib.ListN.{length}
use borrow.Author.Tests.{leb-true}
use Rattle.model.specs.Call.{Lent, most_entries, has_room}
use Rattle.model.proofs.Judging.{all_of_at}

pub record RoomFacts (points nodes : ℕ) (lent : Lent) : Type 0 where
  pub node : nodes ≤ lent.node
  pub heap : 1 ≤ lent.heap
  pub coverage : most_entries points nodes ≤ lent.coverage
  pub ids : most_entries points nodes ≤ length lent.lists.ids
  pub lengths : most_entries points nodes ≤ length lent.lists.lengths

pub room_facts : (points nodes : ℕ) (lent : Lent) → has_room points nodes lent ≡ true → RoomFacts points nodes lent
unfolding has_room
room_facts points nodes lent e = record {
  node = leb-true _ _ (all_of_at _ e 0);
  heap = leb-true _ _ (all_of_at _ e 1);
  coverage = leb-true _ _ (all_of_at _ e 2);
  ids = leb-true _ _ (all_of_at _ e 3);
  lengths = leb-true _ _ (all_of_at _ e 4);
}
