-- The lent areas of a call, and what refusals 1 to 6 leave.
use Rattle.std.specs.Prelude.{ℕ, ◌/◌, ◌≤◌, min, ◌≡◌, List, length, Result, Ok, Err}
use Rattle.model.specs.declared.Counts.{Counts}
use Rattle.model.specs.View.{view}
use Rattle.model.specs.Search.{bounded_astar}
use Rattle.model.specs.Decode.{outcome}
use Rattle.model.specs.Call.{Lists, Lent, answered, most_entries, decode}
use Rattle.answers.specs.declared.Sizes.{Sizes}
use Rattle.answers.specs.Room.{lent_of, answer_of}
use Rattle.model.specs.declared.error.DecodeError.{DecodeError}
use Rattle.sheet.specs.declared.Sheet.{Sheet}
use Rattle.sheet.specs.Contents.{contents}

-- what a call is lent, slice by slice: how many numbers each slice of a work area holds, and the answer lists
pub record Slices : Type 0 where
  pub labels : ℕ
  pub came_from : ℕ
  pub entries : ℕ
  pub links : ℕ
  pub covered : ℕ
  pub coverage : ℕ
  pub lists : Lists

-- An area of several slices is as large as the least of them. An entry has two numbers in `labels`, `entries` and `links`.
abbrev pub lent : Slices → Lent
lent x = record {
  node = min (x.labels / 2) x.came_from;
  heap = min (x.entries / 2) (x.links / 2);
  coverage = min x.covered x.coverage;
  lists = x.lists;
}

-- there is room for a sheet with the counts c
pub record Room (c : Counts) (a : Sizes) : Type 0 where
  pub node : c.n ≤ a.node
  pub heap : 1 ≤ a.heap
  pub coverage : most_entries c.p c.n ≤ a.coverage
  pub ids : most_entries c.p c.n ≤ a.ids
  pub lengths : most_entries c.p c.n ≤ a.lengths

-- the lists l are of these sizes
abbrev pub OfSizes : Sizes → Lists → Type 0
OfSizes a l = (length l.ids ≡ a.ids) × (length l.lengths ≡ a.lengths)

-- refusals 1 to 6, which leave the lists as they are, or on with a well-formed sheet that has room
unfoldable pub Opens : List ℕ → Sizes → Result Sheet DecodeError → Type 0
Opens s a (Err e) = (l : Lists) → OfSizes a l → decode s (lent_of a l) ≡ record { answer = answer_of (Err e); lists = l }
Opens s a (Ok sheet) = Room sheet.counts a × ((l : Lists) → OfSizes a l → decode s (lent_of a l) ≡ answered (contents sheet) l (outcome (view (contents sheet)) (bounded_astar a.heap)))
