-- The writer after two parts of the text, one behind the other.
use Prim.Native.Nat.{ℕ, ◌+◌, ◌≤◌}
use native.Mathlib.Omega.{arith}
use mathlib.Core.Path.{◌≡◌, sym, ap, ap₂, subst, ◌∙◌}
use mathlib.Core.List.{List, ◌++◌, append_assoc}
use lib.ListN.{length, take, drop, length-append}
use lib.Seq.{take_at, drop_at, drop-drop, length-take-le}
use Rattle.text.specs.declared.parts.Writer.{Writer}
use Rattle.text.specs.Buffer.{BytesAt, Put}

module _ {xs ys : List ℕ} {a b c : Writer} (p : Put xs a b) (q : Put ys b c) where
  joined : BytesAt xs a b → BytesAt ys b c → a.at + length xs ≤ length a.out.now → BytesAt (xs ++ ys) a c
  joined s t fits =
      let x = a.out.now in
      let both = length-append xs ys in
      let front = take a.at x ++ xs in
      let count : length front ≡ b.at = length-append (take a.at x) xs ∙ omega (arith, length-take-le a.at x (omega arith), s.end_is) in
      let before : take b.at b.out.now ≡ front = ap (take b.at) s.is ∙ take_at front (drop (a.at + length xs) x) b.at count in
      let behind : drop b.at b.out.now ≡ drop (a.at + length xs) x = ap (drop b.at) s.is ∙ drop_at front (drop (a.at + length xs) x) b.at count in
      let rest : drop (b.at + length ys) b.out.now ≡ drop (a.at + length xs + length ys) x = sym (drop-drop (length ys) b.at b.out.now) ∙ ap (drop (length ys)) behind ∙ drop-drop (length ys) (a.at + length xs) x in
      let total : a.at + length xs + length ys ≡ a.at + length (xs ++ ys) = omega (arith, both) in
      record {
        end_is = omega (arith, s.end_is, t.end_is, both);
        is =
            t.is
            ∙ ap₂ (λ (l r : List ℕ). l ++ ys ++ r) before rest
            ∙ ap₂ (λ (l r : List ℕ). l ++ r) (append_assoc (take a.at x) xs ys) (ap (λ (k : ℕ). drop k x) total);
      }

  -- two parts
  pub then : Put (xs ++ ys) a c
  then = record {
    same_reference = q.same_reference ∙ p.same_reference;
    size = q.size ∙ p.size;
    counted = omega (arith, length-append xs ys, p.counted, q.counted);
    stands = λ fits.
        let both = length-append xs ys in
        let room : a.at + length xs ≤ length a.out.now = omega (arith, both) in
        let s = p.stands room in
        joined s (q.stands (omega (arith, both, s.end_is, p.size))) room;
  }

  -- two parts that are together zs
  pub then_is : (zs : List ℕ) → xs ++ ys ≡ zs → Put zs a c
  then_is zs e = subst (λ (l : List ℕ). Put l a c) e then
