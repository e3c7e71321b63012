-- What stands in the list of the path after the walk at an end, and after both.
use Rattle.std.specs.Prelude.{ℕ, ◌≤◌, ◌<◌, ◌≡◌, List, length, take}
use Rattle.model.specs.Lists.{head, last}
use Rattle.model.specs.Sheet.{Sheet}
use Rattle.model.specs.Ends.{PathEnd, FinalPath, offset_fraction}
use Rattle.search.specs.Answers.{RoadNumbers}
use Rattle.ends.specs.declared.WalkedEnd.{WalkedEnd}
use Rattle.ends.specs.declared.Final.{Final}

-- the path after an end's walk: `count` roads, at most `most`
pub record EndHeld (o : PathEnd) (e most : ℕ) (ids : List ℕ) (g : WalkedEnd) : Type 0 where
  pub path : take g.count ids ≡ o.path
  pub offset : g.offset ≡ o.offset
  pub some_road : 0 < g.count
  pub room : g.count ≤ most
  pub numbers : RoadNumbers e g.count ids

-- the path after both walks: `count` roads, at most `most`
pub record FinalHeld (t : Sheet) (o : FinalPath) (e most : ℕ) (ids : List ℕ) (r : Final) : Type 0 where
  pub path : take r.count ids ≡ o.path
  pub count : r.count ≡ length o.path
  pub start_offset : r.start_offset ≡ o.start_offset
  pub start_fraction : r.start_fraction ≡ offset_fraction t o.start_offset (head o.path)
  pub end_offset : r.end_offset ≡ o.end_offset
  pub end_fraction : r.end_fraction ≡ offset_fraction t o.end_offset (last o.path)
  pub some_road : 0 < r.count
  pub room : r.count ≤ most
  pub numbers : RoadNumbers e r.count ids
