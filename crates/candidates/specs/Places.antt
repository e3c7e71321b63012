-- An array of which the first n places are used, and the others hold nothing: the used ones give it back.
use Rattle.std.specs.Prelude.{ℕ, ◌≤◌, ◌-◌, ◌≡◌, List, ◌++◌, length, take, drop, replicate}
use Rattle.std.proofs.Common.{◌∙◌, sym, ap, subst, take-append-drop, length-take-le}
use Rattle.candidates.specs.declared.candidate.Candidate as code
use Rattle.candidates.specs.Found.{nothing}

module _ (size n : ℕ) (items : List code.Candidate) (fit : n ≤ size) (long : length items ≡ size) where
  pub count_back : length (take n items) ≡ n
  count_back = length-take-le n items (subst (λ (k : ℕ). n ≤ k) (sym long) fit)

  pub items_back : drop n items ≡ replicate (size - n) nothing → take n items ++ replicate (size - length (take n items)) nothing ≡ items
  items_back e = ap (λ (k : ℕ). take n items ++ replicate (size - k) nothing) count_back ∙ ap (λ (ys : List code.Candidate). take n items ++ ys) (sym e) ∙ take-append-drop n items
