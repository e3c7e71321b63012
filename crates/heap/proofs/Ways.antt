-- What the loops of `sift_up` and `sift_down_to_bottom` keep: the rest of the way, from the hole at i, gives what the whole way gives.
use mathlib.Core.Path.{◌≡◌, refl}
use mathlib.Core.List.{List, [], ◌∷◌}
use mathlib.Core.Bool.{true, false}
use Prim.Native.Nat.{ℕ, zero, suc, ◌+◌, ◌-◌, ◌*◌, ◌/◌, ◌<◌, ◌≤◌}
use native.Mathlib.Omega.{arith}
use lib.ListN.{length, get_or, set, length-set}
use lib.Seq.{get_or-set_other}
use lib.Ieee.{Float}
use borrow.Author.Tests.{eq-eqb, ne_eqb, lt-ltb, le-ltb}
use Rattle.model.specs.Numbers.{◌≤ᶠ◌}
use Rattle.model.specs.Heap.{sift_up, child, sink}
use Rattle.heap.specs.Keys.{FrontBelow}

-- a store of a number below m keeps a number below m
set_below : (o : List ℕ) (i j v m : ℕ) → v < m → get_or o j 0 < m → get_or (set o i v) j 0 < m
set_below [] i j v m p q = q
set_below (x ∷ o) zero zero v m p q = p
set_below (x ∷ o) zero (suc j) v m p q = q
set_below (x ∷ o) (suc i) zero v m p q = q
set_below (x ∷ o) (suc i) (suc j) v m p q = set_below o i j v m p q

-- ---- up

pub record Up (key : ℕ → Float) (e m : ℕ) (o₀ : List ℕ) (hole : ℕ) (o : List ℕ) (i : ℕ) : Type 0 where
  pub fuel : ℕ
  pub enough : i ≤ fuel
  pub within : i ≤ hole
  pub same : sift_up fuel key e o i ≡ sift_up hole key e o₀ hole
  pub len : length o ≡ length o₀
  pub below : FrontBelow o i m

module _ (key : ℕ → Float) (e m : ℕ) (o₀ : List ℕ) (hole : ℕ) where
  -- the parent moves down into the hole
  pub up_step : (o : List ℕ) (i : ℕ) → Up key e m o₀ hole o i → 0 < i
      → key (get_or o ((i - 1) / 2) 0) ≤ᶠ key e ≡ false
      → Up key e m o₀ hole (set o i (get_or o ((i - 1) / 2) 0)) ((i - 1) / 2)
  unfolding sift_up
  up_step o i u h t = go u.fuel u.enough u.same
    where
      go : (f : ℕ) → i ≤ f → sift_up f key e o i ≡ sift_up hole key e o₀ hole → Up key e m o₀ hole (set o i (get_or o ((i - 1) / 2) 0)) ((i - 1) / 2)
      go zero l s = absurd (omega arith)
      go (suc f) l s = record {
        fuel = f;
        enough = omega arith;
        within = omega (arith, u.within);
        same = simp (ne_eqb i 0 (λ q. omega arith), t) at s;
        len = simp length-set u.len;
        below = λ j d. rw (get_or-set_other o i j (get_or o ((i - 1) / 2) 0) 0 (λ q. omega arith)) (u.below j (omega arith));
      }

  pub up_root : (o : List ℕ) (i : ℕ) → Up key e m o₀ hole o i → i ≤ 0 → set o i e ≡ sift_up hole key e o₀ hole
  unfolding sift_up
  up_root o i u h = go u.fuel u.same
    where
      go : (f : ℕ) → sift_up f key e o i ≡ sift_up hole key e o₀ hole → set o i e ≡ sift_up hole key e o₀ hole
      go zero s = s
      go (suc f) s = simp (eq-eqb i 0 (omega arith)) at s

  pub up_stop : (o : List ℕ) (i : ℕ) → Up key e m o₀ hole o i → 0 < i
      → key (get_or o ((i - 1) / 2) 0) ≤ᶠ key e ≡ true
      → set o i e ≡ sift_up hole key e o₀ hole
  unfolding sift_up
  up_stop o i u h t = go u.fuel u.same
    where
      go : (f : ℕ) → sift_up f key e o i ≡ sift_up hole key e o₀ hole → set o i e ≡ sift_up hole key e o₀ hole
      go zero s = s
      go (suc f) s = simp (ne_eqb i 0 (λ q. omega arith), t) at s

-- ---- down

pub record Down (key : ℕ → Float) (e end m : ℕ) (o₀ o : List ℕ) (i left : ℕ) : Type 0 where
  pub fuel : ℕ
  pub enough : end ≤ fuel + i
  pub within : i ≤ end
  pub child_at : left ≡ 2 * i + 1
  pub same : sink fuel key e end o i ≡ sink end key e end o₀ 0
  pub len : length o ≡ length o₀
  pub below : FrontBelow o end m

module _ (key : ℕ → Float) (e end m : ℕ) (o₀ : List ℕ) where
  pub down_start : FrontBelow o₀ end m → Down key e end m o₀ o₀ 0 1
  down_start b = record { fuel = end; enough = omega arith; within = omega arith; child_at = omega arith; same = refl; len = refl; below = b }

  -- the greater child moves up into the hole
  pub down_step : (o : List ℕ) (i left c : ℕ) → Down key e end m o₀ o i left → left + 1 < end → (c ≡ child key o left) × (left ≤ c) × (c ≤ left + 1)
      → Down key e end m o₀ (set o i (get_or o c 0)) c (2 * c + 1)
  unfolding sink
  down_step o i left c d h q = go d.fuel d.enough d.same
    where
      go : (f : ℕ) → end ≤ f + i → sink f key e end o i ≡ sink end key e end o₀ 0 → Down key e end m o₀ (set o i (get_or o c 0)) c (2 * c + 1)
      go zero l s = absurd (omega (arith, d.child_at))
      go (suc f) l s = record {
        fuel = f;
        enough = omega (arith, d.child_at);
        within = omega arith;
        child_at = refl;
        same = rw (q.0, d.child_at) (simp (lt-ltb (2 * i + 1 + 1) end (omega (arith, d.child_at))) at s);
        len = simp length-set d.len;
        below = λ j l. set_below o i j (get_or o c 0) m (d.below c (omega arith)) (d.below j l);
      }

  -- a single child, the last place of all
  pub down_one : (o : List ℕ) (i left : ℕ) → Down key e end m o₀ o i left → left + 1 ≡ end
      → sift_up left key e (set o i (get_or o left 0)) left ≡ sink end key e end o₀ 0
  unfolding sink
  down_one o i left d h = go d.fuel d.enough d.same
    where
      go : (f : ℕ) → end ≤ f + i → sink f key e end o i ≡ sink end key e end o₀ 0 → sift_up left key e (set o i (get_or o left 0)) left ≡ sink end key e end o₀ 0
      go zero l s = absurd (omega (arith, d.child_at))
      go (suc f) l s = rw d.child_at (simp (le-ltb (2 * i + 1 + 1) end (omega (arith, d.child_at)), eq-eqb (2 * i + 1 + 1) end (omega (arith, d.child_at))) at s)

  -- no child
  pub down_none : (o : List ℕ) (i left : ℕ) → Down key e end m o₀ o i left → end ≤ left + 1 → (left + 1 ≡ end → ⊥)
      → sift_up i key e o i ≡ sink end key e end o₀ 0
  unfolding sink
  down_none o i left d h n = go d.fuel d.same
    where
      go : (f : ℕ) → sink f key e end o i ≡ sink end key e end o₀ 0 → sift_up i key e o i ≡ sink end key e end o₀ 0
      go zero s = s
      go (suc f) s = simp (le-ltb (2 * i + 1 + 1) end (omega (arith, d.child_at)), ne_eqb (2 * i + 1 + 1) end (λ z. n (omega (arith, d.child_at)))) at s
