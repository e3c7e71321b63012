-- Every call leaves both answer lists as long as they were: refusals 1 to 6 leave them untouched, and what is written after those fits.
use Prim.Native.Nat.{ℕ, ◌≤◌, zero-le}
use mathlib.Core.Path.{◌≡◌, refl}
use mathlib.Core.Bool.{Bool, true, false, cond}
use mathlib.Core.List.{List, [], map}
use native.Mathlib.Nat.{le_trans, le_of_eq}
use lib.ListN.{length, length-map}
use Rattle.model.specs.Judge.{Judged}
use Rattle.model.specs.Judge.{Fine, Refused}
use Rattle.model.specs.Numbers.{f0}
use Rattle.model.specs.Judge.{judged}
use Rattle.model.specs.Sheet.{Sheet, road_at, parsed}
use Rattle.model.specs.View.{view}
use Rattle.model.specs.Search.{bounded_astar}
use Rattle.model.specs.Decode.{Outcome, refused, matched, outcome}
use Rattle.model.specs.Ends.{finalize_path}
use Rattle.model.specs.Call.{Lists, Lent, Decoded, written, answered, has_room, untouched, decode_by, decode_sheet, after_judging, decode}
use Rattle.model.proofs.Members.{length_pad}
use Rattle.bounds.specs.Theorems.{SameLength, ListTheorem}
use Rattle.bounds.proofs.Room.{room_facts}
use Rattle.bounds.proofs.RoomProof.{room_theorem}

-- a law of every call: it holds where the lists stay untouched, and of what is answered on a well-formed sheet with room
pub decode_law : (D : Decoded → Type 0) (s : List ℕ) (lent : Lent)
    → ((number at : ℕ) → D (untouched number at lent.lists))
    → (judged s ≡ Fine → has_room (length (parsed s).points) (parsed s).nodes lent ≡ true
    → (o : Outcome) → outcome (view (parsed s)) (bounded_astar lent.heap) ≡ o → D (answered (parsed s) lent.lists o))
    → D (decode s lent)
unfolding decode after_judging decode_sheet decode_by
decode_law D s lent no_write write = go (judged s) refl
  where
    t : Sheet
    t = parsed s

    l : Lists
    l = lent.lists

    room : judged s ≡ Fine → (b : Bool) → has_room (length t.points) t.nodes lent ≡ b → D (cond b (answered t l (outcome (view t) (bounded_astar lent.heap))) (untouched 6 0 l))
    room e true h = write e h (outcome (view t) (bounded_astar lent.heap)) refl
    room e false h = no_write 6 0

    go : (j : Judged) → judged s ≡ j → D (after_judging j s l (λ t. decode_sheet t lent))
    go (Refused number at) e = no_write number at
    go Fine e = room e (has_room (length t.points) t.nodes lent) refl

-- a path that fits is written over lists of the same length
pub written_length : (t : Sheet) (path : List ℕ) (l : Lists) → length path ≤ length l.ids → length path ≤ length l.lengths → SameLength l (written t path l)
unfolding written
written_length t path l h k = record {
  ids = length_pad (length l.ids) 0 (map (λ r. (road_at t r).id) path) (le_trans (le_of_eq (length-map path (λ r. (road_at t r).id))) h);
  lengths = length_pad (length l.lengths) f0 (map (λ r. (road_at t r).length_m) path) (le_trans (le_of_eq (length-map path (λ r. (road_at t r).length_m))) k);
}

pub list_theorem : ListTheorem
unfolding untouched answered
list_theorem s lent = decode_law (λ d. SameLength lent.lists d.lists) s lent (λ number at. record { ids = refl; lengths = refl }) write
  where
    t : Sheet
    t = parsed s

    l : Lists
    l = lent.lists

    write : judged s ≡ Fine → has_room (length t.points) t.nodes lent ≡ true → (o : Outcome) → outcome (view t) (bounded_astar lent.heap) ≡ o → SameLength l (answered t l o).lists
    write fine h (refused n x y) e = written_length t [] l zero-le zero-le
    write fine h (matched k c) e =
        let r = room_facts (length t.points) t.nodes lent h in
        let p = (room_theorem s fine lent.heap k c e).path in
        written_length t (finalize_path t k).path l (le_trans p r.ids) (le_trans p r.lengths)
