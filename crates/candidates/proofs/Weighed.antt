-- The score of a candidate that passes is an amount: each penalty is finite, so no product is a NaN.
use Prim.Native.Nat.{ℕ, zero, suc, ◌*◌, ◌≤◌, ◌<◌}
use mathlib.Core.Path.{sym, subst}
use mathlib.Core.Bool.{Bool, true, false, not, ◌&&◌, cond}
use native.Mathlib.Nat.{le_trans, le_of_eq, mul_assoc, mul_comm, mul-pos, mul-le-mul_left, mul-le-mul_right, zero-lt-suc}
use native.Mathlib.Omega.{arith}
use lib.Dec.{T, eqb, ltb, leb, eqb→eq, ltb→lt, leb→le, nltb→le, not_T}
use lib.IntN.{ℤ}
use lib.Ieee.{Float, nan, inf, fin, binary64, up, down, round, div, lt, le, of_int, of_bits, fits}
use lib.Ieee.Bits.{cond_no}
use lib.Ieee.Fits.{down_pos, and_l, and_r}
use lib.Ieee.Order.{round_mono}
use lib.Ieee.Positive.{first_pos}
use Rattle.model.specs.declared.Settings.{Settings}
use Rattle.model.specs.declared.Point.{Point}
use Rattle.model.specs.Numbers.{f0, f1, f360, nat}
use Rattle.model.specs.Lists.{all, tabulate}
use Rattle.model.specs.View.{Projection, is_slip}
use Rattle.model.specs.Candidates.{normalize, compute_score, class_difference, substitution_score, bearing_difference, candidate_of, passes}
use Rattle.road_network.proofs.Pairs.{at_pair}
use Rattle.bounds.specs.Amounts.{measured, Amount, Finite, Portion}
use Rattle.bounds.proofs.Rank.{Number, number, to_number, Kind, endless, ended, to_kind, or_le, round_amount, add_amount}
use Rattle.bounds.proofs.AmountLaws.{zero_finite, mul_amount, rest_finite}
use Rattle.candidates.proofs.Degrees.{Turned, round_turned, nat_turned, angle, as_fraction}

-- ---- quotients

-- a quotient of at most 360 of two values
divided : (m : ℕ) (e : ℤ) (n : ℕ) (d : ℤ) → 0 < n → m * up e * down d ≤ 360 * (n * up d * down e) → 0 < n * up d * down e → Finite (div binary64 (fin false m e) (fin false n d))
unfolding div
divided m e n d h g k =
    subst Finite
    (sym (cond_no (eqb n 0) (cond (eqb m 0) nan (inf false)) (round binary64 false (m * up e * down d) (n * up d * down e)) (not_T (eqb n 0) (λ t. let z = eqb→eq n 0 t in omega arith))))
    (round_turned (m * up e * down d) (n * up d * down e) k g).finite

-- what is above 0
above : (n : ℕ) (d : ℤ) → T (lt f0 (fin false n d)) → 0 < n * up d
unfolding lt of_bits
above n d t = let k = ltb→lt (0 * down d) (n * up d * 1) t in omega arith

-- a value by a maximum that it is not above
pub held : (x y : Float) → Finite x → Finite y → T (not (lt y x)) → Finite (normalize x y)
unfolding normalize lt
held x y p q h = go (lt f0 y) (λ t. t) (to_number x p) (to_number y q) h
  where
    quotient : {a b : Float} → Number a → Number b → T (lt f0 b) → T (not (lt b a)) → Finite (div binary64 a b)
    quotient (number {m} {e} s) (number {m = n} {e = d} t) z h =
        let k = above n d z in
        let l = nltb→le (n * up d * down e) (m * up e * down d) h in
        divided m e n d (first_pos n (up d) k) (omega arith) (mul-pos k (down_pos e))

    go : (b : Bool) → (T b → T (lt f0 y)) → Number x → Number y → T (not (lt y x)) → Finite (cond b (div binary64 x y) f0)
    go true f a b h = quotient a b (f tt) h
    go false f a b h = zero_finite

-- a value of at most 360 by a whole number above 0
by_whole : (x : Float) (n : ℕ) → Turned x → T (lt f0 (nat n)) → Finite (div binary64 x (nat n))
unfolding measured fits div of_int of_bits
by_whole x zero p t = absurd (unfold lt round in t)
by_whole x (suc n) p t =
    let one : T (le f1 (nat (suc n))) = unfold round in round_mono binary64 1 1 (suc n) 1 (zero-lt-suc 0) (zero-lt-suc 0) (omega arith) in
    go (to_number x p.finite) (to_kind (nat (suc n)) (round_amount (suc n) 1)) p.within t one
  where
    go : {a b : Float} → Number a → Kind b → T (le a f360) → T (lt f0 b) → T (le f1 b) → Finite (div binary64 a b)
    go (number s) endless p z h = tt
    go (number {m} {e} s) (ended {m = n} {e = d} t) p z h =
        let k = above n d z in
        let a : m * up e ≤ 360 * down e = as_fraction m e p in
        let f : 1 * down d ≤ n * up d * 1 = unfold le in or_le (1 * down d) (n * up d * 1) h in
        let b : down d ≤ n * up d = omega arith in
        divided m e n d (first_pos n (up d) k)
        (le_trans (mul-le-mul_right (down d) a)
        (le_trans (le_of_eq (mul_assoc 360 (down e) (down d)))
        (mul-le-mul_left 360 (le_trans (mul-le-mul_left (down e) b) (le_of_eq (mul_comm (down e) (n * up d)))))))
        (mul-pos k (down_pos e))

-- a class difference by the tolerance, whatever that is
pub class_held : (k tolerance : ℕ) → k ≤ 360 → Finite (normalize (nat k) (nat tolerance))
unfolding normalize
class_held k tolerance h = go (lt f0 (nat tolerance)) (λ t. t)
  where
    go : (b : Bool) → (T b → T (lt f0 (nat tolerance))) → Finite (cond b (div binary64 (nat k) (nat tolerance)) f0)
    go true f = by_whole (nat k) tolerance (nat_turned k h) (f tt)
    go false f = zero_finite

-- ---- the score

-- the settings that the score reads
pub record Weighed (c : Settings) : Type 0 where
  pub radius : Finite c.search_radius_m
  pub bearing : Finite c.max_bearing_diff
  pub distance_weight : Finite c.distance_weight
  pub bearing_weight : Finite c.bearing_weight
  pub frc_weight : Finite c.frc_weight
  pub fow_weight : Finite c.fow_weight

pub score_amount : (c : Settings) (distance bearing : Float) (class : ℕ) (fow : Float) → Weighed c → Finite distance → T (not (lt c.search_radius_m distance))
    → Finite bearing → T (not (lt c.max_bearing_diff bearing)) → class ≤ 360 → Portion fow → Amount (compute_score c distance bearing class fow)
unfolding compute_score
score_amount c distance bearing class fow w p hp q hq k f =
    add_amount _ _
    (add_amount _ _
    (add_amount _ _
    (mul_amount _ _ w.distance_weight (held distance c.search_radius_m p w.radius hp))
    (mul_amount _ _ w.bearing_weight (held bearing c.max_bearing_diff q w.bearing hq)))
    (mul_amount _ _ w.frc_weight (class_held class c.frc_tolerance k)))
    (mul_amount _ _ w.fow_weight (rest_finite fow f))

-- ---- the leaves

fow_portion : (a b : ℕ) → a ≤ 7 → b ≤ 7 → Portion (substitution_score a b)
unfolding all tabulate substitution_score
fow_portion a b h g =
    let t = at_pair 8 8 (λ a b. measured (substitution_score a b) && le (substitution_score a b) f1) (unfold measured fits le of_bits in tt) a b (omega arith) (omega arith) in
    record { finite = and_l (measured (substitution_score a b)) (le (substitution_score a b) f1) t; within = and_r (measured (substitution_score a b)) (le (substitution_score a b) f1) t }

class_most : (a b : ℕ) → a ≤ 7 → b ≤ 7 → class_difference a b ≤ 360
unfolding all tabulate
class_most a b h g = leb→le (class_difference a b) 360 (at_pair 8 8 (λ a b. leb (class_difference a b) 360) tt a b (omega arith) (omega arith))

-- what a well-formed sheet says of a point and of a projection of it
pub record Measured (p : Point) (s : Projection) : Type 0 where
  pub heading : p.bearing ≤ 360
  pub wanted_class : p.frc ≤ 7
  pub wanted_form : p.fow ≤ 7
  pub class : s.road.frc ≤ 7
  pub form : s.road.fow ≤ 7
  pub distance_m : Finite s.row.distance_m
  pub bearing : Turned s.row.bearing

pub passing_score : (c : Settings) (p : Point) (s : Projection) → Weighed c → Measured p s → T (passes c (candidate_of c p s)) → Amount (candidate_of c p s).score
unfolding candidate_of passes
passing_score c p s w m t =
    let bearing = bearing_difference (nat p.bearing) s.row.bearing in
    let class = class_difference s.road.frc p.frc in
    let fow = substitution_score p.fow s.road.fow in
    let a = ltb c.frc_tolerance class && not (is_slip s.road) in
    let b = lt c.search_radius_m s.row.distance_m in
    let d = lt c.max_bearing_diff bearing in
    score_amount c s.row.distance_m bearing class fow w m.distance_m (and_r (not a) (not b) (and_l (not a && not b) (not d) t))
    (angle _ _ (nat_turned p.bearing m.heading) m.bearing).finite (and_r (not a && not b) (not d) t)
    (class_most s.road.frc p.frc m.class m.wanted_class) (fow_portion p.fow s.road.fow m.wanted_form m.form)
