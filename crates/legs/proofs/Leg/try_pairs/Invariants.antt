use Rattle.std.proofs.Common.{◌≡◌, length}
use Rattle.std.proofs.Math.Option.{none}
use Rattle.model.specs.Lists.{sort}
use Rattle.model.specs.Legs.{pairs, by_sum, try_pairs}
use Rattle.sheet.specs.Contents.{contents}
use Rattle.candidates.specs.Found.{held}
use Rattle.pairs.specs.Left.{left}
use Rattle.rules.specs.Code.{best_of}
use Rattle.pair_plans.specs.Turns.{Remembers}
use Rattle.search.specs.Areas.{SameRoom}
use Rattle.legs.specs.Found.{search_of}
use Rattle.legs.proofs.Leg.try_pairs.Given as goal

abbrev pub invariant-loop-next : goal.invariant-loop-next
invariant-loop-next l =
    let t = contents l.initial.areas.sheet in
    let search = search_of l.self l.initial.areas in
    let xs = held t l.starts in
    let ys = held t l.ends in record {
      same_room : SameRoom l.initial.areas l.areas;
      remembers : Remembers search l.initial.areas.sheet.counts.n l.best;
      means : try_pairs l.self.limits search (sort by_sum (left xs ys l.heads)) (best_of search l.best) ≡ try_pairs l.self.limits search (sort by_sum (pairs xs ys)) none;
    }

abbrev pub decreases-loop-next : goal.decreases-loop-next
decreases-loop-next l = length (left (held (contents l.initial.areas.sheet) l.starts) (held (contents l.initial.areas.sheet) l.ends) l.heads)
