-- The roads behind a path, put in front of it the last one first: all are turned round, then the path's own again.
use Rattle.std.proofs.Common.{◌≡◌, ℕ, ◌-◌, ◌≤◌, List, [], ◌++◌, length, take, drop, sym, ap, ◌∙◌, arith, append-nil, length-drop, take_all, take-append-drop}
use Rattle.std.specs.Prelude.{reverse}
use Rattle.std.proofs.lemmas.List.{take_at, drop_at, reverse-append, reverse-reverse, length-reverse}
use Rattle.std.proofs.Math.ListN.{drop_of_length-le}
use borrow.Rule.Slice.PartMut.{mid_of, put_mid}

pub turned : (ids all own : List ℕ) (n k : ℕ)
    → n ≤ length ids
    → all ≡ reverse ids
    → k ≡ length all - n
    → own ≡ reverse (mid_of k (length all - k) all)
    → put_mid k (length all - k) all own ≡ reverse (drop n ids) ++ take n ids
turned ids all own n k h is at again =
    let parts : all ≡ reverse (drop n ids) ++ reverse (take n ids) = is ∙ ap reverse (sym (take-append-drop n ids)) ∙ reverse-append (take n ids) (drop n ids) in
    let size : length all ≡ length ids = ap length is ∙ length-reverse ids in
    let long : length (reverse (drop n ids)) ≡ k = length-reverse (drop n ids) ∙ omega (arith, length-drop n ids) in
    let front : take k all ≡ reverse (drop n ids) = rw parts (take_at (reverse (drop n ids)) (reverse (take n ids)) k long) in
    let back : drop k all ≡ reverse (take n ids) = rw parts (drop_at (reverse (drop n ids)) (reverse (take n ids)) k long) in
    let mid : mid_of k (length all - k) all ≡ reverse (take n ids) = take_all (length all - k) (drop k all) (omega (arith, length-drop k all)) ∙ back in
    let none : drop (length all - k) (drop k all) ≡ [] = drop_of_length-le (drop k all) {i = length all - k} (omega (arith, length-drop k all)) in
    rw (front, none, append-nil, again, mid) (ap (λ xs. reverse (drop n ids) ++ xs) (reverse-reverse (take n ids)))
