-- The first start with the least head, one start more at a time.
use mathlib.Core.Path.{◌≡◌, refl, sym}
use Rattle.std.specs.Prelude.{Option, Some, None}
use mathlib.Core.Bool.{true, false}
use mathlib.Core.List.{List, map}
use Prim.Native.Nat.{ℕ, ◌+◌, ◌<◌, ◌≤◌}
use native.Mathlib.Omega.{arith}
use lib.ListN.{length, get_or}
use lib.Ieee.{Float, binary64, add, lt, nan}
use borrow.Author.Count.{below_more}
use Rattle.std.proofs.lemmas.List.{get_or-map}
use Rattle.bounds.proofs.Rank.{rank}
use Rattle.candidates.proofs.Ranked.{below_rank, not_below_rank, rank_below, rank_not_below}
use Rattle.pairs.specs.Left.{head_sum, Open, HeadAmounts, LeastOf}

-- the sum of the scores u of start i and v of the end at its head
module _ {A : Type 0} (score : A → Float) (xs ys : List A) (heads : List ℕ) (i : ℕ) where
  pub sum_is : (x y : A) (u v : Float) → i < length xs → x ≡ get_or xs i x → (get_or heads i 0 < length ys) × ((d : A) → y ≡ get_or ys (get_or heads i 0) d) → u ≡ score x → v ≡ score y
      → add binary64 u v ≡ head_sum (map score xs) (map score ys) heads i
  unfolding head_sum
  sum_is x y u v h a g b c = rw (b, c, get_or-map score xs i x nan h, get_or-map score ys (get_or heads i 0) y nan g.0, sym a, sym (g.1 y))

module _ (starts ends : List Float) (heads : List ℕ) where
  abbrev sum : ℕ → Float
  sum k = head_sum starts ends heads k

  module _ (i : ℕ) where
    fewer : HeadAmounts starts ends heads (i + 1) → HeadAmounts starts ends heads i
    fewer s k g = s k (omega arith)

    -- start i has no end left
    pub least_skip : (best : Option (ℕ × Float)) → LeastOf starts ends heads i best → length ends ≤ get_or heads i 0 → LeastOf starts ends heads (i + 1) best
    least_skip None b g = below_more (λ (k : ℕ). length ends ≤ get_or heads k 0) i b g
    least_skip (Some best) b g = (
      b.0,
      record {
        below = let l = b.1.below in omega arith;
        some_end = b.1.some_end;
        before = λ s. b.1.before (fewer s);
        behind = λ s. below_more (λ (k : ℕ). Open ends heads k → lt (sum k) (sum best.0) ≡ false) i (b.1.behind (fewer s)) (λ o. absurd (omega arith));
      },
    )

    module _ (o : Open ends heads i) where
      self : HeadAmounts starts ends heads (i + 1) → lt (sum i) (sum i) ≡ false
      self s = let p = s i (omega arith) o in rank_not_below (sum i) (sum i) p p (omega arith)

      -- the first with an end left
      pub least_first : LeastOf starts ends heads i None → LeastOf starts ends heads (i + 1) (Some (i, head_sum starts ends heads i))
      least_first b = (
        refl,
        record {
          below = omega arith;
          some_end = o;
          before = λ s k g q. absurd (let f = b k g in omega arith);
          behind = λ s. below_more (λ (k : ℕ). Open ends heads k → lt (sum k) (sum i) ≡ false) i (λ k g q. absurd (let f = b k g in omega arith)) (λ q. self s);
        },
      )

      module _ (best : ℕ) (least : Float) (b : LeastOf starts ends heads i (Some (best, least))) where
        above : lt (sum i) (sum best) ≡ true → HeadAmounts starts ends heads (i + 1) → (k : ℕ) → k < i → Open ends heads k → rank (sum i) < rank (sum k)
        above t s k g q =
            let pi = s i (omega arith) o in
            let pb = s best (let w = b.1.below in omega arith) b.1.some_end in
            let pk = s k (omega arith) q in
            let f = below_rank (sum i) (sum best) pi pb t in
            let r = not_below_rank (sum k) (sum best) pk pb (b.1.behind (fewer s) k g q) in
            omega arith

        -- one with a lower sum
        pub least_lower : lt (head_sum starts ends heads i) least ≡ true → LeastOf starts ends heads (i + 1) (Some (i, head_sum starts ends heads i))
        least_lower e =
            let t : lt (sum i) (sum best) ≡ true = rw b.0 at e in (
              refl,
              record {
                below = omega arith;
                some_end = o;
                before = λ s k g q. rank_below (sum i) (sum k) (s i (omega arith) o) (s k (omega arith) q) (above t s k g q);
                behind = λ s. below_more (λ (k : ℕ). Open ends heads k → lt (sum k) (sum i) ≡ false) i
                    (λ k g q. rank_not_below (sum k) (sum i) (s k (omega arith) q) (s i (omega arith) o) (let a = above t s k g q in omega arith))
                    (λ q. self s);
              },
            )

        -- one whose sum is not lower
        pub least_stays : lt (head_sum starts ends heads i) least ≡ false → LeastOf starts ends heads (i + 1) (Some (best, least))
        least_stays e =
            let t : lt (sum i) (sum best) ≡ false = rw b.0 at e in (
              b.0,
              record {
                below = let l = b.1.below in omega arith;
                some_end = b.1.some_end;
                before = λ s. b.1.before (fewer s);
                behind = λ s. below_more (λ (k : ℕ). Open ends heads k → lt (sum k) (sum best) ≡ false) i (b.1.behind (fewer s)) (λ q. t);
              },
            )
