use Rattle.std.proofs.Common.{◌≤◌, length, refl, ◌∙◌, arith}
use Rattle.std.proofs.lemmas.List.{take_all, take_at, get_or_append_left}
use Rattle.std.proofs.lemmas.Result.{err_from_is_err_and}
use Rattle.model.specs.Legs.{next_pair, goes_on, ends, heap_full}
use Rattle.sheet.specs.Contents.{contents}
use Rattle.candidates.specs.Found.{held}
use Rattle.candidates.proofs.Held.{held_long}
use Rattle.pairs.proofs.LeftLaws.{left_zeros}
use Rattle.rules.specs.Code.{best_of}
use Rattle.legs.specs.Found.{search_of}
use Rattle.legs.proofs.Going.{good_enough, tried, all_tried, no_pair_left, next_pair_left, fewer_pairs_left}
use Rattle.legs.proofs.Leg.try_pairs.Goals as goal

-- what the code hands on is compared with the starts and the ends by these lemmas: a slice or a copy of all of them would do as well
ruleset whole = (arith, take_all, take_at, get_or_append_left)

pub loop-next-init : goal.loop-next-init
loop-next-init c = let a = c.args in let t = contents a.areas.now.sheet in
    let few : length (held t a.starts.now) ≤ 10 = omega (arith, held_long t a.starts.now) in record {
      same_room = record { sheet = refl; slots = refl };
      remembers = tt;
      means = rw (left_zeros (held t a.starts.now) (held t a.ends.now) 10 few);
    }

pub returns-then-best_score-first-clause-means : goal.returns-then-best_score-first-clause-means
unfolding next_pair
returns-then-best_score-first-clause-means c = let a = c.args in let t = contents a.areas.now.sheet in let p = c.requires.ready in
    let search = search_of a.self.now a.areas.now in
    let next = next_pair_left t a.starts.now a.ends.now _ _ _ c.in-Some.ensures.next c.in-Some.ensures.within (grind whole) (grind whole) p.0.rising p.1.rising in
    good_enough a.self.now.limits search _ _ _ _ next _ c.loop-next.invariant.means (grind (whole, c.best_score.ensures search, c.if-best_score-first.true))

pub returns-in_err-best-clause-means : goal.returns-in_err-best-clause-means
unfolding next_pair
returns-in_err-best-clause-means c = let a = c.args in let t = contents a.areas.now.sheet in let p = c.requires.ready in
    let search = search_of a.self.now a.areas.now in
    let next = next_pair_left t a.starts.now a.ends.now _ _ _ c.in-Some.ensures.next c.in-Some.ensures.within (grind whole) (grind whole) p.0.rising p.1.rising in
    let turned = rw (c.loop-next.invariant.same_room.sheet, c.loop-next.invariant.same_room.slots) at c.in_err-best.ensures.means in
    let full = err_from_is_err_and c.from_residual.result c.from_residual.ensures.1 in
    rw full.1 (tried a.self.now.limits search _ _ _ _ next _ c.loop-next.invariant.means (grind (whole, c.best_score.ensures search, c.if-best_score-first.false)) (ends heap_full) (grind (whole, turned)))

pub loop-next-preserved : goal.loop-next-preserved
unfolding next_pair
loop-next-preserved c = let a = c.args in let t = contents a.areas.now.sheet in let p = c.requires.ready in
    let search = search_of a.self.now a.areas.now in
    let room = c.loop-next.invariant.same_room in
    let next = next_pair_left t a.starts.now a.ends.now _ _ _ c.in-Some.ensures.next c.in-Some.ensures.within (grind whole) (grind whole) p.0.rising p.1.rising in
    let turned = rw (room.sheet, room.slots) at c.in_ok-best.ensures.means in
    let there = rw (room.sheet, room.slots) at c.in_ok-best.ensures.remembers in record {
      same_room = record { sheet = c.in_ok-best.ensures.same_room.sheet ∙ room.sheet; slots = c.in_ok-best.ensures.same_room.slots ∙ room.slots };
      remembers = there c.loop-next.invariant.remembers;
      means = tried a.self.now.limits search _ _ _ _ next _ c.loop-next.invariant.means (grind (whole, c.best_score.ensures search, c.if-best_score-first.false)) (goes_on (best_of search c.in_ok-best.best)) (grind (whole, turned));
    }

pub loop-next-smaller : goal.loop-next-smaller
loop-next-smaller c = let a = c.args in let p = c.requires.ready in
    fewer_pairs_left (contents a.areas.now.sheet) a.starts.now a.ends.now _ _ _ c.in-Some.ensures.next c.in-Some.ensures.within (grind whole) (grind whole) p.0.rising p.1.rising

pub returns-clause-means : goal.returns-clause-means
unfolding next_pair
returns-clause-means c = let a = c.args in let t = contents a.areas.now.sheet in
    all_tried a.self.now.limits (search_of a.self.now a.areas.now) _ _ _ (no_pair_left t a.starts.now a.ends.now _ c.next_pair.new.heads c.in_default.ensures.next (grind whole) (grind whole)) c.loop-next.invariant.means
