use native.Mathlib.Omega.{arith}
use Rattle.model.specs.Sheet.{road_at}
use Rattle.sheet.specs.Contents.{contents}
use Rattle.search.specs.Query.{query_on}
use Rattle.search.specs.Answers.{roads_in, Traced}
use Rattle.search.proofs.Growth.{same_nodes}
use Rattle.search.proofs.Walks.{found_told}
use Rattle.search.proofs.route.end_of_search.Goals as goal

pub returns-in-Ok-true-clause-found : goal.returns-in-Ok-true-clause-found
unfolding query_on
returns-in-Ok-true-clause-found c =
    let is = rw c.in-Ok-true.field-0-test at c.in-Ok-true.is in
    let back = c.requires.reached is in
    let a = c.args.areas.now in
    rw is (found_told (road_at (contents c.args.search.now.sheet)) _ a.real.now a.penalised.now _ _ c.count_back-n.result (omega (arith, same_nodes c.requires.goal.1)) back.reached (c.count_back-n.ensures.2 a.real.now a.penalised.now))

pub returns-in-Ok-true-clause-traced : goal.returns-in-Ok-true-clause-traced
unfolding query_on Traced roads_in
returns-in-Ok-true-clause-traced c =
    let is = rw c.in-Ok-true.field-0-test at c.in-Ok-true.is in
    let back = c.requires.reached is in
    let a = c.args.areas.now in
    rw is (record {
      inside = omega (arith, same_nodes c.requires.goal.1);
      size = back.size;
      few = omega (arith, c.count_back-n.ensures.0, same_nodes c.requires.goal.1);
      leads = c.count_back-n.ensures.1;
      roads = c.count_back-n.ensures.2 a.real.now a.penalised.now;
    })
