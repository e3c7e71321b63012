-- The best path on one road, start by start and end by end. An end on another road changes nothing.
use Rattle.std.proofs.Common.{◌≡◌, ℕ, ◌+◌, ◌<◌, List, [], ◌∷◌, ◌++◌, map, length, get_or, take, refl, sym, ◌∙◌, arith}
use Rattle.std.proofs.lemmas.Grind.{common_steps}
use Rattle.std.proofs.lemmas.List.{map_more, map-append}
use borrow.Author.Tests.{ne_eqb}
use Rattle.std.proofs.Math.Option.{Option, none}
use Rattle.model.specs.Candidates.{Candidate}
use Rattle.model.specs.declared.Limits.{Limits}
use Rattle.sheet.specs.declared.Sheet.{Sheet}
use Rattle.sheet.specs.Contents.{contents}
use Rattle.model.proofs.Parsed.{number_is}
use Rattle.candidates.specs.declared.candidate.Candidate as code
use Rattle.candidates.specs.Found.{at_road}
use Rattle.model.specs.Lists.{fold}
use Rattle.model.specs.Legs.{Scored, pair, pairs, close, take_close}
use Rattle.candidates.proofs.Folds.{fold_append}

-- two candidates on two roads of the sheet
pub apart_left : (sheet : Sheet) (b : Limits) (best : Option Scored) (x y : code.Candidate) → x.edge_idx < sheet.counts.e → y.edge_idx < sheet.counts.e → (y.edge_idx ≡ x.edge_idx → ⊥)
    → take_close b best (pair (at_road (contents sheet) x) (at_road (contents sheet) y)) ≡ best
unfolding take_close close
apart_left sheet b best x y h k n =
    let e = ne_eqb (at_road (contents sheet) x).road.number (at_road (contents sheet) y).road.number (λ q. n (sym (sym (number_is sheet.bytes.now sheet.counts x.edge_idx h) ∙ q ∙ number_is sheet.bytes.now sheet.counts y.edge_idx k))) in
    grind (arith, common_steps)

pairs_append : (xs zs ys : List Candidate) → pairs (xs ++ zs) ys ≡ pairs xs ys ++ pairs zs ys
unfolding pairs
pairs_append [] zs ys = refl
pairs_append (x ∷ xs) zs ys = grind (arith, common_steps, pairs_append xs zs ys)

-- one end more
pub ends_more : {A : Type 0} (b : Limits) (x : Candidate) (g : A → Candidate) (old : Option Scored) (ys : List A) (i : ℕ) (d : A) → i < length ys
    → fold (take_close b) old (map (pair x) (map g (take (i + 1) ys))) ≡ take_close b (fold (take_close b) old (map (pair x) (map g (take i ys)))) (pair x (g (get_or ys i d)))
unfolding fold
ends_more b x g old ys i d h = rw (map_more g ys i d h, map-append (pair x)) (fold_append (take_close b) old (map (pair x) (map g (take i ys))) (pair x (g (get_or ys i d)) ∷ []))

-- one start more
pub starts_more : {A : Type 0} (b : Limits) (g : A → Candidate) (xs : List A) (ys : List Candidate) (i : ℕ) (d : A) → i < length xs
    → fold (take_close b) none (pairs (map g (take (i + 1) xs)) ys) ≡ fold (take_close b) (fold (take_close b) none (pairs (map g (take i xs)) ys)) (map (pair (g (get_or xs i d))) ys)
unfolding pairs
starts_more b g xs ys i d h = rw (map_more g xs i d h, pairs_append (map g (take i xs)) (g (get_or xs i d) ∷ []) ys) (grind (arith, common_steps, fold_append (take_close b) none))
