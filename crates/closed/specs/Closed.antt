-- "The words of demand 3", and the demand.
use Rattle.std.specs.Prelude.{ℕ, ◌+◌, ◌<◌, ◌≡◌, Bool, true, false, not, ◌&&◌, List, [], ◌∷◌, eqb, ltb, Float}
use Rattle.std.specs.Float.Ieee.{eq}
use Rattle.model.specs.Judge.{Fine}
use Rattle.model.specs.Numbers.{f0}
use Rattle.model.specs.Lists.{filter, any, all}
use Rattle.model.specs.Table.{all_of}
use Rattle.model.specs.Layout.{counts_of, settings_bytes, points_bytes, road_bytes, rows_bytes, distances_bytes}
use Rattle.model.specs.Judge.{judged}
use Rattle.model.specs.Sheet.{MeasuredPoint, Sheet, parsed, road_at, list_at}
use Rattle.model.specs.View.{is_slip, leg_starts}
use Rattle.model.specs.Call.{Lent, Answer, refused, matched, decode}

-- ---- closed roads

-- A class number exceeds a limit even with the tolerance added, without the cap at 7. There is no limit at 255.
unfoldable pub exceeds : ℕ → ℕ → ℕ → Bool
exceeds tolerance limit class = not (eqb limit 255) && ltb (limit + tolerance) class

-- road i's class number exceeds the class limit of the leg from p
abbrev pub beyond_limit : Sheet → ℕ → MeasuredPoint → Bool
beyond_limit t i p = exceeds t.settings.frc_tolerance p.point.limit (road_at t i).frc

unfoldable pub beyond_every_limit : Sheet → ℕ → Bool
beyond_every_limit t i = all (beyond_limit t i) (leg_starts t)

-- a measured projection names road i
unfoldable pub named : Sheet → ℕ → Bool
named t i = any (λ p. any (λ w. eqb w.road i) p.rows) t.points

-- A rule of closing: which roads of a sheet are closed.
abbrev pub Closing : Type 0
Closing = Sheet → ℕ → Bool

-- Road i is closed: no slip road, every leg has a class limit that its class number exceeds, and no projection names it.
unfoldable pub is_closed : Closing
is_closed t i = all_of
    (not (is_slip (road_at t i))
    ∷ beyond_every_limit t i
    ∷ not (named t i)
    ∷ [])

-- ---- alike sheets

-- Equal kind and N, equal bytes in settings, points, rows and distances.
pub record EqualParts (x y : List ℕ) : Type 0 where
  pub kind : (counts_of x).kind ≡ (counts_of y).kind
  pub nodes : (counts_of x).n ≡ (counts_of y).n
  pub settings : settings_bytes x ≡ settings_bytes y
  pub points : points_bytes x (counts_of x) ≡ points_bytes y (counts_of y)
  pub rows : rows_bytes x (counts_of x) ≡ rows_bytes y (counts_of y)
  pub distances : distances_bytes x (counts_of x) ≡ distances_bytes y (counts_of y)

-- Every road of x that is not closed there is a road of y, with the same number and the same 32 bytes.
abbrev pub Agree : Closing → List ℕ → List ℕ → Type 0
Agree closed x y = (i : ℕ) → i < (counts_of x).e → closed (parsed x) i ≡ false → (i < (counts_of y).e) × (road_bytes x (counts_of x) i ≡ road_bytes y (counts_of y) i)

-- the numbers of the roads that leave node v and are not closed, in list order
abbrev pub open_at : Closing → List ℕ → ℕ → List ℕ
open_at closed x v = filter (λ i. not (closed (parsed x) i)) (list_at (parsed x) v)

-- Alike by a rule of closing: equal parts; the roads not closed agree, also in their order at each node.
pub record AlikeBy (closed : Closing) (x y : List ℕ) : Type 0 where
  pub parts : EqualParts x y
  pub agree : Agree closed x y
  pub agree_back : Agree closed y x
  pub order : (v : ℕ) → open_at closed x v ≡ open_at closed y v

abbrev pub Alike : List ℕ → List ℕ → Type 0
Alike x y = AlikeBy is_closed x y

-- ---- the demand

-- What never depends on closed roads: a refusal with its places, or length, primary road and coverage.
pub data SharedAnswer : Type 0 where
  refusal : ℕ → ℕ → ℕ → SharedAnswer
  match : Float → ℕ → Float → SharedAnswer

unfoldable pub shared_answer : Answer → SharedAnswer
shared_answer (refused number a b) = refusal number a b
shared_answer (matched m) = match m.length_m m.primary m.coverage

unfoldable pub no_zero_length : Sheet → Bool
no_zero_length t = all (λ r. not (eq r.length_m f0)) t.roads

-- With snapping off and no road of length 0 on either sheet, the whole answer and both lists.
pub record Powerless (x y : List ℕ) (lent : Lent) : Type 0 where
  pub same_core : shared_answer (decode x lent).answer ≡ shared_answer (decode y lent).answer
  pub same_whole : (parsed x).settings.snap_to_valid_nodes ≡ false → no_zero_length (parsed x) ≡ true → no_zero_length (parsed y) ≡ true → decode x lent ≡ decode y lent

abbrev pub Demand3 : Type 0
Demand3 = (x y : List ℕ) → judged x ≡ Fine → judged y ≡ Fine → Alike x y → (lent : Lent) → Powerless x y lent
