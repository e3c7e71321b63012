use Rattle.std.proofs.Common.{◌≡◌, ◌+◌, ◌≤◌, ◌++◌, take}
use Rattle.sheet.specs.Contents.{contents}
use Rattle.rules.specs.Code.{terminal_of}
use Rattle.full_path.specs.Left.{coverages_at, cover_all, OnRoads, SameAreas}
use Rattle.full_path.proofs.Covered.{wholes}
use Rattle.full_path.proofs.Coverages.cover_leg.Given as goal

abbrev pub invariant-loop-number : goal.invariant-loop-number
invariant-loop-number l = record {
  sizes : SameAreas l.fn.self l.self;
  few : l.self.count ≤ l.fn.self.count + 1 + l.number-index;
  below : OnRoads l.sheet.counts.e l.self;
  covered : coverages_at (contents l.sheet) l.self ≡ cover_all l.covering (coverages_at (contents l.sheet) l.fn.self) (terminal_of l.r.head ++ wholes (contents l.sheet) (take l.number-index l.middle));
}
