-- What a search found, by what it tells of it.
use Rattle.std.proofs.Common.{◌≡◌, ℕ, List, length, refl}
use Rattle.std.specs.Prelude.{Float}
use Rattle.model.specs.declared.Road.{Road}
use Rattle.model.specs.Search.{SearchEnd, found, none_found, full}
use Rattle.search.specs.declared.SearchEnd.TheVariants as S
use Rattle.search.specs.Answers.{told}

pub told_found : (f : SearchEnd) (cost : Float) (n : ℕ) → S.Found cost n ≡ told f → (way : List Road) × (f ≡ found cost way) × (length way ≡ n)
unfolding told
told_found (found x way) cost n e = (way, cc, cc)
told_found none_found cost n e = cc
told_found full cost n e = cc

pub told_nothing : (f : SearchEnd) → S.Nothing ≡ told f → f ≡ none_found
unfolding told
told_nothing (found x way) e = cc
told_nothing none_found e = refl
told_nothing full e = cc

pub told_full : (f : SearchEnd) → S.Full ≡ told f → f ≡ full
unfolding told
told_full (found x way) e = cc
told_full none_found e = cc
told_full full e = refl
