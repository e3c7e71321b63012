-- What is written of a leg's roads: where they go, and what stands there then.
use Rattle.std.proofs.Common.{◌≡◌, ℕ, ◌+◌, ◌-◌, ◌≤◌, List, [], ◌∷◌, ◌++◌, length, take, Option, Some, None, drop, refl, sym, ap, ◌∙◌, arith, append-nil, append_assoc, length-append, length-drop, take_all, slice_get}
use Rattle.std.proofs.lemmas.List.{take_at, drop_at, drop-drop}
use Rattle.std.proofs.Math.ListN.{drop_of_length-le}
use Rattle.std.specs.Option.{option_and_then}
use Rattle.std.proofs.Math.Option as definition
use borrow.Rule.Slice.PartMut.{mid_of, put_mid}
use Rattle.model.specs.Lists.{head}
use Rattle.rules.specs.declared.TerminalEdge.{TerminalEdge}
use Rattle.rules.specs.declared.PathResult.{PathResult}
use Rattle.search.specs.declared.route.Trace.{Trace}
use Rattle.search.specs.Traces.{trace_numbers, traced_numbers}
use Rattle.search.proofs.Walks.{back_size}
use Rattle.sheet.specs.Contents.{contents}
use Rattle.model.specs.Sheet.{road_at}
use Rattle.full_path.specs.Left.{terminal_numbers, numbers_of, number_as}

-- `out` holds p in front; what stands behind it is lent, and comes back as ys, with q in front
pub behind : (out out₁ p q ys : List ℕ) (n : ℕ)
    → n ≡ length p
    → length p + length q ≤ length out
    → out₁ ≡ p ++ drop (length p) out
    → ys ≡ q ++ drop (length q) (mid_of n (length out₁ - n) out₁)
    → put_mid n (length out₁ - n) out₁ ys ≡ (p ++ q) ++ drop (length (p ++ q)) out
behind out out₁ p q ys n at room is here =
    let size : length out₁ ≡ length out = ap length is ∙ omega (arith, length-append p (drop (length p) out), length-drop (length p) out) in
    let front : take n out₁ ≡ p = rw is (take_at p (drop (length p) out) n (sym at)) in
    let rest : drop n out₁ ≡ drop (length p) out = rw is (drop_at p (drop (length p) out) n (sym at)) in
    let all : mid_of n (length out₁ - n) out₁ ≡ drop (length p) out = take_all (length out₁ - n) (drop n out₁) (omega (arith, length-drop n out₁)) ∙ rest in
    let none : drop (length out₁ - n) (drop n out₁) ≡ [] = drop_of_length-le (drop n out₁) {i = length out₁ - n} (omega (arith, length-drop n out₁)) in
    let further : drop (length q) (drop (length p) out) ≡ drop (length (p ++ q)) out = drop-drop (length q) (length p) out ∙ ap (λ k. drop k out) (sym (length-append p q)) in
    rw (front, none, append-nil, here, all, further) (sym (append_assoc p q (drop (length (p ++ q)) out)))

-- three parts, one after the other
pub three_parts : (out a b d out₁ ys zs : List ℕ) (f m k : ℕ)
    → f ≡ length a
    → length b ≡ m
    → k ≡ length d
    → length a + length b + length d ≤ length out
    → out₁ ≡ a ++ drop f out
    → ys ≡ b ++ drop m (mid_of f (length out₁ - f) out₁)
    → (let out₂ = put_mid f (length out₁ - f) out₁ ys in
    zs ≡ d ++ drop k (mid_of (f + m) (length out₂ - (f + m)) out₂)
    → put_mid (f + m) (length out₂ - (f + m)) out₂ zs ≡ (a ++ b ++ d) ++ drop (length (a ++ b ++ d)) out)
three_parts out a b d out₁ ys zs f m k first middle last room one two three =
    let both : put_mid f (length out₁ - f) out₁ ys ≡ (a ++ b) ++ drop (length (a ++ b)) out = behind out out₁ a b ys f first (omega arith) (rw first at one) (rw (sym middle) at two) in
    behind out (put_mid f (length out₁ - f) out₁ ys) (a ++ b) d zs (f + m) (omega (arith, length-append a b)) (omega (arith, length-append a b)) both (rw last at three)

-- ---- how many

terminal_few : (p : Option TerminalEdge) → length (terminal_numbers p) ≤ 1
terminal_few None = omega arith
terminal_few (Some x) = omega arith

pub numbers_few : (r : PathResult) (ks : List ℕ) → length (numbers_of r ks) ≤ length ks + 2
numbers_few r ks = omega (arith, length-append (terminal_numbers r.head ++ ks) (terminal_numbers r.tail), length-append (terminal_numbers r.head) ks, terminal_few r.head, terminal_few r.tail)

-- ---- a middle that was traced

pub traced_size : (x : Trace) → length (trace_numbers x) ≡ x.count
traced_size x = back_size (road_at (contents x.sheet)) x.came_from.now x.count x.goal

abbrev pub first_traced : Option Trace → Option ℕ
first_traced middle = option_and_then (λ x. slice_get (trace_numbers x) 0) middle

pub none_traced : (middle : Option Trace) → first_traced middle ≡ None → traced_numbers middle ≡ []
none_traced None none = refl
none_traced (Some x) none = go (trace_numbers x) none
  where
    go : (ks : List ℕ) → slice_get ks 0 ≡ None → ks ≡ []
    go [] e = refl
    go (k ∷ ks) e = absurd (cc)

pub head_traced : (middle : Option Trace) (ys : List ℕ) (k : ℕ) → first_traced middle ≡ Some k → head (traced_numbers middle ++ ys) ≡ definition.some k
unfolding head
head_traced None ys k first = absurd (cc)
head_traced (Some x) ys k first = go (trace_numbers x) first
  where
    go : (ks : List ℕ) → slice_get ks 0 ≡ Some k → head (ks ++ ys) ≡ definition.some k
    go [] e = absurd (cc)
    go (j ∷ ks) e = ap number_as e
