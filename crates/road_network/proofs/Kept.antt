-- The walk over the roads by rising number, with its early end, against the neighbours that all roads give.
use Prim.Native.Nat.{ℕ, suc, ◌+◌, ◌-◌, ◌≤◌, ◌<◌}
use mathlib.Core.Path.{◌≡◌, refl, sym, ap, ◌∙◌, subst}
use mathlib.Core.Bool.{Bool, true, false, not, cond, and-true}
use mathlib.Core.List.Memᴰ
use mathlib.Core.List.{List, [], ◌∷◌}
use native.Mathlib.Omega.{arith}
use lib.Dec.{T, T_not, not_T, eqb, ltb, nltb→le}
use lib.ListN.{length}
use Rattle.std.specs.Prelude.{Option, Some, None, option_map}
use borrow.Author.Tests.{eqb-true, eqb-false}
use Rattle.model.specs.declared.Neighbour.{Neighbour}
use Rattle.model.specs.declared.Road.{Road}
use Rattle.model.specs.Lists.{any, fold, tabulate}
use Rattle.model.specs.Sheet.{Sheet, road_at}
use Rattle.model.specs.Ends.{grown, note, meet_road, around, ins_of, outs_of, is_choice, passes_through, is_valid_node}
use Rattle.model.proofs.Members.{or_l, or_r, here}
use Rattle.bounds.proofs.Few.{note_self, through}
use Rattle.road_network.specs.declared.graph.Neighbours.{Neighbours}
use Rattle.road_network.specs.declared.graph.Neighbours.TheVariants.{Nobody, One, Two}
use Rattle.road_network.specs.Graph.{decided, reads, roads_read}
use Rattle.road_network.specs.Neighbours.{is_second, new_neighbour, one_more, meet_node, meets_road, Few, is_through}
use Rattle.road_network.proofs.Runs.{run_step, run_end}
use Rattle.road_network.proofs.Deciding.{Plain, plain_no, new_neighbour_plain, grown_plain, second_choice, Open, open_of, open_fold}

-- the neighbours that the code keeps
unfoldable pub listed : Neighbours → List Neighbour
listed Nobody = []
listed (One a) = a ∷ []
listed (Two a b) = a ∷ b ∷ []

module _ (v : ℕ) where
  -- none of them is a choice
  unfoldable pub Clean : Neighbours → Type 0
  Clean Nobody = Unit
  Clean (One a) = Plain v a
  Clean (Two a b) = Plain v a × Plain v b

  pub few : (x : Neighbours) → Clean x → Few x
  unfolding Clean
  few Nobody h = tt
  few (One a) h = tt
  few (Two a b) h = (h.0.few_in, h.0.few_out, h.1.few_in, h.1.few_out)

  -- what the code keeps of the neighbours xs: themselves, or nothing where there is a choice
  abbrev pub Kept : List Neighbour → Option Neighbours → Type 0
  Kept xs (Some x) = (listed x ≡ xs) × Clean x
  Kept xs None = Open v xs → ⊥

  -- ---- one road more

  kept_note : (x : Neighbours) → Clean x → (u : ℕ) (inward : Bool) → (u ≡ v → ⊥) → Kept (note u inward (listed x)) (meet_node x u inward)
  unfolding Clean listed note one_more meet_node
  kept_note Nobody h u inward q = (refl, new_neighbour_plain v u inward q)
  kept_note (One a) h u inward q = go (eqb a.node u) (is_second inward a) refl
    where
      go : (is-a twice : Bool) → is_second inward a ≡ twice
          → Kept (cond is-a (grown inward a ∷ []) (a ∷ new_neighbour u inward ∷ [])) (cond is-a (option_map One (cond twice None (Some (grown inward a)))) (Some (Two a (new_neighbour u inward))))
      go true true e = λ o. second_choice v inward a e (o.plain _ here)
      go true false e = (refl, grown_plain v inward a e h)
      go false twice e = (refl, (h, new_neighbour_plain v u inward q))
  kept_note (Two a b) h u inward q = go (eqb a.node u) (is_second inward a) (eqb b.node u) (is_second inward b) refl refl
    where
      go : (is-a a-twice is_b b-twice : Bool) → is_second inward a ≡ a-twice → is_second inward b ≡ b-twice
          → Kept (cond is-a (grown inward a ∷ b ∷ []) (a ∷ cond is_b (grown inward b ∷ []) (b ∷ new_neighbour u inward ∷ [])))
          (cond is-a (option_map (λ x. Two x b) (cond a-twice None (Some (grown inward a)))) (cond is_b (option_map (λ x. Two a x) (cond b-twice None (Some (grown inward b)))) None))
      go true true is_b b-twice e f = λ o. second_choice v inward a e (o.plain _ here)
      go true false is_b b-twice e f = (refl, (grown_plain v inward a e h.0, h.1))
      go false a-twice true true e f = λ o. second_choice v inward b f (o.plain _ (Memᴰ.tail here))
      go false a-twice true false e f = (refl, (h.0, grown_plain v inward b f h.1))
      go false a-twice false b-twice e f = λ o. omega (arith, o.few)

  -- a self-loop makes the node its own neighbour
  self_loop : (u : ℕ) (xs : List Neighbour) → u ≡ v → Open v (note u true xs) → ⊥
  self_loop u xs e o = let own = note_self v u true xs e in (o.plain own.0 own.1).other own.2

  kept_road : (x : Neighbours) → Clean x → (r : Road) → Kept (meet_road v (listed x) r) (meets_road v x r.source r.target)
  unfolding meet_road meets_road
  kept_road x h r = go (eqb r.target v) (eqb r.source v) refl refl
    where
      go : (into out : Bool) → eqb r.target v ≡ into → eqb r.source v ≡ out
          → Kept (cond into (note r.source true (listed x)) (cond out (note r.target false (listed x)) (listed x)))
          (cond into (cond out None (meet_node x r.source true)) (cond out (meet_node x r.target false) (Some x)))
      go true true e f = self_loop r.source (listed x) (eqb-true _ _ f)
      go true false e f = kept_note x h r.source true (eqb-false _ _ f)
      go false true e f = kept_note x h r.target false (eqb-false _ _ e)
      go false false e f = (refl, h)

  -- ---- what is decided, and what is left at the end

  -- what is not open is decided, and what the code keeps is open
  open_decided : (xs : List Neighbour) → (Open v xs → ⊥) → decided v xs ≡ true
  unfolding decided
  open_decided xs h = go (decided v xs) refl
    where
      go : (b : Bool) → decided v xs ≡ b → decided v xs ≡ true
      go true e = e
      go false e =
          let long = ltb 2 (length xs) in
          let choice = any (is_choice v) xs in
          absurd (h (open_of v xs (nltb→le 2 (length xs) (not_T long (λ t. subst T e (or_l long choice t)))) (λ t. subst T e (or_r long choice t))))

  clean_open : (x : Neighbours) → Clean x → decided v (listed x) ≡ false
  unfolding decided listed Clean any
  clean_open Nobody h = refl
  clean_open (One a) h = rw (plain_no v h)
  clean_open (Two a b) h = rw (plain_no v h.0, plain_no v h.1)

  -- the test at the end is the definition's
  through_is : (x : Neighbours) → Clean x → is_through x ≡ passes_through v (listed x)
  unfolding is_through passes_through listed Clean ins_of outs_of any
  through_is Nobody h = refl
  through_is (One a) h = refl
  through_is (Two a b) h =
      let ins : b.ins + 0 ≡ b.ins = omega arith in
      let outs : b.outs + 0 ≡ b.outs = omega arith in
      rw (ins, outs, plain_no v h.0, plain_no v h.1) (sym (and-true _))

-- ---- the loop

module _ (t : Sheet) (v e : ℕ) where
  -- the neighbours after road i, and after all roads from i on
  abbrev next : ℕ → List Neighbour → List Neighbour
  next i xs = meet_road v xs (road_at t i)

  abbrev after : ℕ → List Neighbour → List Neighbour
  after i xs = fold (λ ys r. meet_road v ys (road_at t r)) xs (tabulate (e - i) i (λ r. r))

  -- the roads read from i on
  abbrev left : ℕ → List Neighbour → ℕ
  left i xs = reads t v xs (tabulate (e - i) i (λ r. r))

  after_road : (i : ℕ) (xs : List Neighbour) → i < e → after i xs ≡ after (i + 1) (next i xs)
  unfolding fold
  after_road i xs h = ap (fold (λ ys r. meet_road v ys (road_at t r)) xs) (run_step (λ r. r) h)

  left_road : (i : ℕ) (xs : List Neighbour) → i < e → left i xs ≡ cond (decided v (next i xs)) 1 (suc (left (i + 1) (next i xs)))
  unfolding reads
  left_road i xs h = ap (reads t v xs) (run_step (λ r. r) h)

  -- a node that is not valid is open after all roads
  open_around : is_valid_node t v ≡ false → Open v (around t v)
  open_around e = let k = through t v e in open_of v (around t v) (omega (arith, k.two)) (T_not (any (is_choice v) (around t v)) k.plain)

  -- After i roads the code holds x.
  pub record Seen (i : ℕ) (x : Neighbours) : Type 0 where
    pub clean : Clean v x
    pub count : i + left i (listed x) ≡ roads_read t v
    pub same : after i (listed x) ≡ around t v

module _ {t : Sheet} {v e : ℕ} where
  -- before the first road
  pub seen_start : length t.roads ≡ e → Seen t v e 0 Nobody
  unfolding around listed Clean
  seen_start h =
      let all : e - 0 ≡ length t.roads = omega arith in
      record {
        clean = tt;
        count = rw all (omega arith);
        same = rw all;
      }

  module _ {i source target : ℕ} {x : Neighbours} {o : Option Neighbours} (s : Seen t v e i x) (h : i < e) (p : source ≡ (road_at t i).source) (q : target ≡ (road_at t i).target) (k : o ≡ meets_road v x source target) where
    road_kept : {m : Option Neighbours} → o ≡ m → Kept v (next t v e i (listed x)) m
    road_kept w = subst (Kept v (next t v e i (listed x))) (sym (sym w ∙ k ∙ rw (p, q))) (kept_road v x s.clean (road_at t i))

    -- a road that is a choice decides it
    pub seen_choice : o ≡ None → (true ≡ is_valid_node t v) × (i + 1 ≡ roads_read t v)
    seen_choice w =
        let one : left t v e i (listed x) ≡ 1 = left_road t v e i (listed x) h ∙ rw (open_decided v _ (road_kept w)) in
        (go (is_valid_node t v) refl, omega (arith, one, s.count))
      where
        go : (b : Bool) → is_valid_node t v ≡ b → true ≡ b
        go true f = refl
        go false f = absurd (road_kept w (open_fold v t _ _ (subst (Open v) (sym s.same ∙ after_road t v e i (listed x) h) (open_around t v e f))))

    -- after any other the walk goes on
    pub seen_step : {y : Neighbours} → o ≡ Some y → Seen t v e (i + 1) y
    seen_step {y} w =
        let m = road_kept w in
        let unsettled : decided v (next t v e i (listed x)) ≡ false = ap (decided v) (sym m.0) ∙ clean_open v y m.1 in
        let more : left t v e i (listed x) ≡ suc (left t v e (i + 1) (next t v e i (listed x))) = left_road t v e i (listed x) h ∙ rw unsettled in
        record {
          clean = m.1;
          count = rw m.0 (omega (arith, more, s.count));
          same = rw m.0 (sym (after_road t v e i (listed x) h) ∙ s.same);
        }

  -- after the last road
  pub seen_end : {i : ℕ} {x : Neighbours} {b : Bool} → Seen t v e i x → e ≤ i → i ≤ e → b ≡ is_through x → (not b ≡ is_valid_node t v) × (e ≡ roads_read t v)
  unfolding is_valid_node fold reads
  seen_end {i} {x} s h g k =
      let whole : listed x ≡ around t v = ap (fold (λ xs r. meet_road v xs (road_at t r)) (listed x)) (sym (run_end (λ r. r) h)) ∙ s.same in
      let none : left t v e i (listed x) ≡ 0 = ap (reads t v (listed x)) (run_end (λ r. r) h) in
      (ap not (k ∙ through_is v x s.clean ∙ ap (passes_through v) whole), omega (arith, none, s.count))
