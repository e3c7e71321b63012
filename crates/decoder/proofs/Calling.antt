-- A call by what refusals 1 to 6 leave.
use Rattle.std.proofs.Common.{◌≡◌, List, ℕ, length, take, refl, sym, arith}
use Rattle.std.proofs.Math.Seq.{length-take-le}
use Rattle.std.specs.Float.Ieee.{Float}
use Rattle.model.specs.Sheet.{Sheet}
use Rattle.model.specs.Decode.{Outcome, refused, matched}
use Rattle.model.specs.Call.{written, answered}
use Rattle.answers.specs.Room.{lists}
use Rattle.full_path.specs.declared.Coverages.{Coverages}
use Rattle.full_path.specs.Left.{Covers}

-- an answer's lists depend on the lists before by their lengths alone
pub answered_as : (t : Sheet) (o : Outcome) (ids ids₁ : List ℕ) (lengths : List Float) → length ids₁ ≡ length ids → answered t (lists ids₁ lengths) o ≡ answered t (lists ids lengths) o
unfolding answered written
answered_as t (refused n a b) ids ids₁ lengths e = rw e
answered_as t (matched k c) ids ids₁ lengths e = rw e

-- coverages are of their own roads, with their own metres
pub covers_own : (x : Coverages) → Covers x x.roads.now (take x.count x.metres.now)
covers_own x = (sym (length-take-le x.count x.metres.now (omega arith)), refl, refl)
