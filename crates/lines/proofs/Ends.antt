-- How a leg ends: with what its search finds, or with why it finds nothing.
use Rattle.std.proofs.Common.{◌≡◌, ℕ, ◌+◌, ◌<◌, Result, Ok, Err, MatchResult, refl, subst, arith}
use Rattle.std.specs.Result.{IsErrAnd}
use Rattle.model.specs.declared.error.DecodeError.{DecodeError}
use Rattle.model.specs.declared.Counts.{Counts}
use Rattle.model.specs.declared.error.DecodeError.TheVariants.{NoPath}
use Rattle.model.specs.Legs.{MiddleSearch, LegEnd, best, no_path, heap_full}
use Rattle.model.specs.Legs as model
use Rattle.model.specs.Decode.{Outcome, refused, after_leg}
use Rattle.rules.specs.declared.PathResult.{PathResult}
use Rattle.legs.specs.declared.LegError.{LegError}
use Rattle.legs.specs.declared.LegError.TheVariants as why
use Rattle.legs.specs.Found.{leg_end_of}
use Rattle.lines.specs.Legs.{refusal, refused_leg, LegInRange}

module _ (r : Result PathResult LegError) (s : Result PathResult DecodeError) (Q : LegError → DecodeError → Type 0) (cases : MatchResult r (λ x. s ≡ Ok x) (λ e. IsErrAnd s (Q e))) where
  pub found_route : (x : PathResult) → s ≡ Ok x → r ≡ Ok x
  found_route x is = go r s cases x is
    where
      go : (r : Result PathResult LegError) (s : Result PathResult DecodeError) → MatchResult r (λ x. s ≡ Ok x) (λ e. IsErrAnd s (Q e)) → (x : PathResult) → s ≡ Ok x → r ≡ Ok x
      go (Ok y) s cases x is = cc
      go (Err e) (Ok y) cases x is = absurd cases
      go (Err e) (Err d) cases x is = absurd (cc)

  pub no_route : (d : DecodeError) → s ≡ Err d → (e : LegError) × (r ≡ Err e) × Q e d
  no_route d is = go r s cases d is
    where
      go : (r : Result PathResult LegError) (s : Result PathResult DecodeError) → MatchResult r (λ x. s ≡ Ok x) (λ e. IsErrAnd s (Q e)) → (d : DecodeError) → s ≡ Err d → (e : LegError) × (r ≡ Err e) × Q e d
      go (Ok y) s cases d is = absurd (cc)
      go (Err e) (Ok y) cases d is = absurd cases
      go (Err e) (Err b) cases d is = let same : b ≡ d = cc in (e, refl, subst (Q e) same cases)

-- what the definition comes to after a leg without a route
pub after_none : (search : MiddleSearch) (i : ℕ) (e : LegError) (next : model.PathResult → Outcome) → after_leg i (leg_end_of search (Err e)) next ≡ refusal (refused_leg i e)
unfolding after_leg
after_none search i why.NoPath next = refl
after_none search i why.HeapFull next = refl

-- a leg without a path is the one that was walked
pub refused_in_range : (c : Counts) (i : ℕ) → i < c.p → (end : LegEnd) (e : DecodeError) → ((next : model.PathResult → Outcome) → after_leg i end next ≡ refusal e) → LegInRange c e
unfolding after_leg
refused_in_range c i h (best r) (NoPath from to) is = absurd (let e = is (λ r. refused 0 0 0) in cc)
refused_in_range c i h no_path (NoPath from to) is = let e = is (λ r. refused 0 0 0) in let here : i ≡ from = cc in let next : i + 1 ≡ to = cc in (omega arith, omega arith)
refused_in_range c i h heap_full (NoPath from to) is = absurd (let e = is (λ r. refused 0 0 0) in cc)
refused_in_range c i h end e is = tt
