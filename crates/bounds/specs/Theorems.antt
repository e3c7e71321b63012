-- The theorems of this crate, each proved in proofs/ for every input.
use Rattle.std.specs.Prelude.{ℕ, suc, ◌-◌, ◌*◌, ◌≤◌, ◌<◌, ◌≡◌, ◌≢◌, Bool, List, [], ◌∷◌, length, Float}
use Rattle.std.proofs.Math.Option.{some}
use Rattle.model.specs.declared.Road.{Road}
use Rattle.model.specs.Lists.{In}
use Rattle.model.specs.Layout.{counts_of}
use Rattle.model.specs.Sheet.{Sheet, parsed}
use Rattle.model.specs.Search.{Query, found, search_within, bounded_astar}
use Rattle.model.specs.Judge.{judged}
use Rattle.model.specs.View.{view}
use Rattle.model.specs.Legs.{EdgeCoverage}
use Rattle.model.specs.Decode.{FullPath, outcome, matched}
use Rattle.model.specs.Ends.{Walk, no_walk, walk, extension, finalize_path}
use Rattle.model.specs.Call.{Lists, Lent, Match, Decoded, most_entries, after_judging, decode_by, decode}
use Rattle.model.specs.Call as call
use Rattle.model.specs.Judge.{Fine}
use Rattle.bounds.specs.Amounts.{Amount, Finite}
use Rattle.bounds.specs.Routes.{Ways, Leads}

-- ---- searches

-- A search over proper ways: what it finds leads from the start to the goal over fewer roads than nodes, at an amount of metres;
-- and any larger bounds on the steps of the walk back and on the turns change nothing.
pub record SearchBound (q : Query) (start slots : ℕ) : Type 0 where
  pub leads : (cost : Float) (roads : List Road) → bounded_astar slots q start ≡ found cost roads → Leads q start roads q.goal
  pub few : (cost : Float) (roads : List Road) → bounded_astar slots q start ≡ found cost roads → length roads ≤ q.nodes - 1
  pub cost : (cost : Float) (roads : List Road) → bounded_astar slots q start ≡ found cost roads → Amount cost
  pub enough : (steps turns : ℕ) → q.nodes - 1 ≤ steps → slots ≤ turns → search_within steps turns slots q start ≡ bounded_astar slots q start

abbrev pub SearchTheorem : Type 0
SearchTheorem = (q : Query) (start slots : ℕ) → Ways q → start < q.nodes → 1 ≤ slots → SearchBound q start slots

-- ---- walks at the ends

-- the numbers of xs differ from each other
abbrev pub Distinct : List ℕ → Type 0
Distinct [] = Unit {0}
Distinct (x ∷ xs) = ((y : ℕ) → In y xs → y ≢ x) × Distinct xs

-- A walk adds at most two roads for each node, all distinct; any larger bound on its turns changes nothing.
pub record WalkBound (t : Sheet) (forward : Bool) (cap : Float) (path : List ℕ) (r : ℕ) : Type 0 where
  pub few : (w : Walk) → extension t forward cap path r ≡ some w → length w.added ≤ 2 * t.nodes
  pub distinct : (w : Walk) → extension t forward cap path r ≡ some w → Distinct w.added
  pub added_m : (w : Walk) → extension t forward cap path r ≡ some w → Amount w.added_m
  pub enough : (turns : ℕ) → suc (2 * t.nodes) ≤ turns → walk turns t forward cap path r no_walk ≡ extension t forward cap path r

abbrev pub WalkTheorem : Sheet → Type 0
WalkTheorem t = (forward : Bool) (cap : Float) (path : List ℕ) (r : ℕ) → WalkBound t forward cap path r

-- ---- the whole call

-- the call with any bounds on the steps back and on the turns of its searches
unfoldable pub decode_within : ℕ → ℕ → List ℕ → Lent → Decoded
decode_within steps turns s lent = after_judging (judged s) s lent.lists (λ t. decode_by (search_within steps turns lent.heap) t lent)

-- Larger bounds change no answer and no list, on any byte sequence.
abbrev pub FuelTheorem : Type 0
FuelTheorem = (s : List ℕ) (lent : Lent) (steps turns : ℕ) → (counts_of s).n - 1 ≤ steps → lent.heap ≤ turns → decode_within steps turns s lent ≡ decode s lent

-- What the legs write, what they cover, and the path with both ends have at most (P + 4) (N + 1) entries.
pub record RoomBound (t : Sheet) (k : FullPath) : Type 0 where
  pub roads : length k.roads ≤ most_entries (length t.points) t.nodes
  pub coverages : length k.coverages ≤ most_entries (length t.points) t.nodes
  pub path : length (finalize_path t k).path ≤ most_entries (length t.points) t.nodes

abbrev pub RoomTheorem : Type 0
RoomTheorem = (s : List ℕ) → judged s ≡ Fine → (slots : ℕ) (k : FullPath) (c : EdgeCoverage)
    → outcome (view (parsed s)) (bounded_astar slots) ≡ matched k c → RoomBound (parsed s) k

-- The answer lists keep their length in every call.
pub record SameLength (before after : Lists) : Type 0 where
  pub ids : length after.ids ≡ length before.ids
  pub lengths : length after.lengths ≡ length before.lengths

abbrev pub ListTheorem : Type 0
ListTheorem = (s : List ℕ) (lent : Lent) → SameLength lent.lists (decode s lent).lists

-- No f64 of an answer is a NaN or -0. An end fraction can be +infinity.
pub record AnswerNumbers (m : Match) (list : List Float) : Type 0 where
  pub length_m : Amount m.length_m
  pub start_offset : Amount m.start_offset
  pub start_fraction : Amount m.start_fraction
  pub end_offset : Amount m.end_offset
  pub end_fraction : Amount m.end_fraction
  pub coverage : Amount m.coverage
  pub lengths : (x : Float) → In x list → Finite x

abbrev pub NumberTheorem : Type 0
NumberTheorem = (s : List ℕ) (lent : Lent) (m : Match) → (decode s lent).answer ≡ call.matched m → AnswerNumbers m (decode s lent).lists.lengths

-- ---- all of them

pub record Theorems : Type 0 where
  pub searches : SearchTheorem
  pub walks : (s : List ℕ) → judged s ≡ Fine → WalkTheorem (parsed s)
  pub fuel : FuelTheorem
  pub room : RoomTheorem
  pub list_lengths : ListTheorem
  pub numbers : NumberTheorem
