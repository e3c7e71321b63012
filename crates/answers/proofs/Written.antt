-- What is written at the front of a list, and the zeros behind it.
use Rattle.std.proofs.Common.{ℕ, ◌≡◌, ◌+◌, ◌-◌, ◌≤◌, ◌∙◌, List, [], map, length, take, drop, replicate, arith, append-nil, length-drop, length-take-le}
use Rattle.std.proofs.lemmas.List.{length-map}
use Rattle.std.proofs.Math.ListN.{drop_of_length-le}
use Rattle.std.proofs.Math.Seq.{take-length}
use borrow.Rule.Slice.PartMut.{mid_of, put_mid}
use Rattle.model.specs.Lists.{pad}
use Rattle.model.proofs.Fill.{Filling, fill_front}

-- what g gives of xs is in front of the list `new`, and its tail comes back as `tail`
pub padded : {A : Type 0} (x : A) (g : ℕ → A) (xs : List ℕ) (n k : ℕ) {old new tail : List A} {j : ℕ}
    → Filling (map g (take j xs)) old new j
    → j ≡ length xs
    → length xs ≤ length old
    → tail ≡ replicate (length (mid_of n k new)) x
    → n ≡ length xs
    → n + k ≡ length new
    → put_mid n k new tail ≡ pad (length old) x (map g xs)
unfolding pad
padded x g xs n k {old} {new} {tail} f e h is at all =
    let front : take n new ≡ map g xs = rw (at, ← e) (fill_front f ∙ rw (e, take-length xs)) in
    let rest : drop k (drop n new) ≡ [] = drop_of_length-le (drop n new) {i = k} (omega (arith, length-drop n new)) in
    let count : length (mid_of n k new) ≡ length old - length (map g xs) = length-take-le k (drop n new) (omega (arith, length-drop n new)) ∙ omega (arith, f.size, length-map xs g) in
    rw (front, rest, append-nil, is, count)
