-- The end of a leg: a solution on one road wins outright, else the pairs decide.
use Rattle.std.proofs.Common.{◌≡◌, List, sym, arith}
use Rattle.std.proofs.Math.Option.{none, some}
use Rattle.std.proofs.Math.Seq.{take_all}
use Rattle.model.specs.Candidates as definition
use Rattle.model.specs.Lists.{sort}
use Rattle.model.specs.Legs.{Scored, LegEnd, best, pairs, leg_pairs, by_sum, try_same_edge_solution, try_pairs, else_pairs, find_best_path}
use Rattle.sheet.specs.Contents.{contents}
use Rattle.candidates.specs.declared.candidate.Candidate.{Candidate}
use Rattle.candidates.specs.Found.{held, CandidatesReady}
use Rattle.candidates.proofs.Held.{held_long}
use Rattle.search.specs.declared.areas.SearchAreas.{SearchAreas}
use Rattle.legs.specs.declared.Leg.{Leg}
use Rattle.legs.specs.Found.{search_of}

module _ (leg : Leg) (areas : SearchAreas) {starts ends : List Candidate} (ready : CandidatesReady areas.sheet.counts starts × CandidatesReady areas.sheet.counts ends) where
  abbrev xs : List definition.Candidate
  xs = held (contents areas.sheet) starts

  abbrev ys : List definition.Candidate
  ys = held (contents areas.sheet) ends

  -- they are at most ten each
  pub ten_pairs : leg_pairs xs ys ≡ pairs xs ys
  ten_pairs = rw (take_all 10 xs (omega (arith, ready.0.few, held_long (contents areas.sheet) starts)), take_all 10 ys (omega (arith, ready.1.few, held_long (contents areas.sheet) ends)))

  pub outright : (s : Scored) → some s ≡ try_same_edge_solution leg.limits (pairs xs ys) → best s.path ≡ find_best_path leg.limits (search_of leg areas) xs ys
  unfolding find_best_path else_pairs
  outright s e = rw (ten_pairs, sym e)

  pub by_pairs : none ≡ try_same_edge_solution leg.limits (pairs xs ys) → {r : LegEnd} → r ≡ try_pairs leg.limits (search_of leg areas) (sort by_sum (pairs xs ys)) none
      → r ≡ find_best_path leg.limits (search_of leg areas) xs ys
  unfolding find_best_path else_pairs
  by_pairs e is = rw (ten_pairs, sym e) is
