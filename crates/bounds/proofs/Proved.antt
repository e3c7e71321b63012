-- The theorems of specs/Theorems.antt, with the files that prove them.
use Rattle.model.specs.Sheet.{parsed}
use Rattle.bounds.specs.Theorems.{Theorems}
use Rattle.bounds.proofs.FormedProof.{formed}
use Rattle.bounds.proofs.SearchBound.{search_theorem}
use Rattle.bounds.proofs.WalkBound.{walk_theorem}
use Rattle.bounds.proofs.Searches.{fuel_theorem}
use Rattle.bounds.proofs.RoomProof.{room_theorem}
use Rattle.bounds.proofs.ListProof.{list_theorem}
use Rattle.bounds.proofs.NumberProof.{number_theorem}

pub theorems : Theorems
theorems = record {
  searches = search_theorem;
  walks = λ s fine. walk_theorem (parsed s) (formed s fine);
  fuel = fuel_theorem;
  room = room_theorem;
  list_lengths = list_theorem;
  numbers = number_theorem;
}
