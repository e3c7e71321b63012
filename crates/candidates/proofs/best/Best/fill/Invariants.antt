use Rattle.std.proofs.Common.{◌≡◌, ◌≤◌, length, []}
use Rattle.model.specs.Lists.{fold}
use Rattle.model.proofs.Members.{Every}
use Rattle.bounds.specs.Amounts.{Amount}
use Rattle.candidates.specs.declared.candidate.Candidate as code
use Rattle.candidates.specs.Found.{Rising}
use Rattle.candidates.proofs.Inserting.{keep}
use Rattle.candidates.proofs.best.Best.fill.Given as goal

abbrev pub invariant-loop-x : goal.invariant-loop-x
invariant-loop-x g l = record {
  rising : Rising l.self;
  few : length l.self ≤ l.most;
  scored : Every (λ (y : code.Candidate). Amount y.score) l.x-iterator;
  rest : fold (keep l.most) l.self l.x-iterator ≡ fold (keep l.most) [] l.fn.rows;
}
