use Rattle.std.proofs.Common.{rules, arith, sym, ◌∙◌}
use Rattle.full_path.specs.Left.{cover_with}
use Rattle.full_path.proofs.Added.{below_more, listed, summed, summed_new}
use Rattle.full_path.proofs.Coverages.add.Goals as goal
use Rattle.full_path.proofs.Coverages.add.Goals.{in-PerRoad, in-PerPass}

pub returns-in-Some-clause-added : goal.returns-in-Some-clause-added
unfolding cover_with
returns-in-Some-clause-added c = λ t e own below known. (
  below,
  (let x = c.args.self.now in elim c.match-covering.branch [
    | in-PerRoad w ↦ rw w.in-PerRoad.is (summed x.roads.now x.metres.now x.count c.args.k (omega arith) (omega arith) t e own below known _ (sym w.find-place.ensures ∙ sym w.place-is ∙ c.in-Some.is))
    | in-PerPass w ↦ absurd (search rules)
  ]),
)

pub returns-in-None-clause-added : goal.returns-in-None-clause-added
unfolding cover_with
returns-in-None-clause-added c = let x = c.args.self.now in λ t e own below known. (
  below_more x.roads.now x.metres.now x.count c.args.k (omega arith) (omega arith) e below known,
  elim c.match-covering.branch [
    | in-PerRoad w ↦ rw w.in-PerRoad.is (summed_new x.roads.now x.metres.now x.count c.args.k (omega arith) (omega arith) t e own below known (sym w.find-place.ensures ∙ sym w.place-is ∙ c.in-None.is))
    | in-PerPass w ↦ rw w.in-PerPass.is (listed x.roads.now x.metres.now x.count c.args.k (omega arith) (omega arith) t)
  ],
)
