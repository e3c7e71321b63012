-- Refusals 1 to 6 in the definition, by the judge's verdict and by the room.
use Rattle.std.proofs.Common.{ℕ, ◌≡◌, Bool, true, false, cond, Ok, Err, List, length, replicate, sym, ◌∙◌, arith}
use Rattle.std.proofs.Math.ListN.{length-replicate}
use Rattle.model.specs.declared.error.DecodeError.{DecodeError}
use Rattle.model.specs.declared.error.DecodeError.TheVariants.{NoRoom}
use Rattle.model.specs.Numbers.{f0}
use Rattle.model.specs.Layout.{counts_of}
use Rattle.model.specs.Judge.{judged}
use Rattle.model.specs.View.{view}
use Rattle.model.specs.Search.{bounded_astar}
use Rattle.model.specs.Decode.{outcome}
use Rattle.model.specs.Call.{Lists, answered, has_room, untouched, decode_by, decode_sheet, after_judging, decode}
use Rattle.model.proofs.Parsed.{node_count, point_count}
use Rattle.bounds.proofs.Room.{room_facts}
use Rattle.sheet.specs.declared.Sheet.{Sheet}
use Rattle.sheet.specs.Contents.{contents}
use Rattle.judge.specs.Verdict.{judged_as}
use Rattle.answers.specs.declared.Sizes.{Sizes}
use Rattle.answers.specs.Room.{lent_of, answer_of}
use Rattle.decoder.specs.Opened.{Room, Opens}
use Rattle.decoder.proofs.Judged.{early, no_second}

module _ (s : List ℕ) (a : Sizes) where
  pub refused_early : (e : DecodeError) → judged_as (Err e) ≡ judged s → Opens s a (Err e)
  unfolding Opens decode after_judging untouched answer_of
  refused_early e is l sizes = rw (← is, no_second e (early s _ _ (sym is)).1)

  module _ (sheet : Sheet) (fine : judged_as (Ok sheet) ≡ judged s) (bytes : sheet.bytes.now ≡ s) (header : sheet.counts ≡ counts_of s) where
    by_room : (l : Lists) → decode s (lent_of a l) ≡ cond (has_room sheet.counts.p sheet.counts.n (lent_of a l)) (answered (contents sheet) l (outcome (view (contents sheet)) (bounded_astar a.heap))) (untouched 6 0 l)
    unfolding decode after_judging decode_sheet decode_by
    by_room l = rw (bytes, ← fine, ← header, point_count s sheet.counts, node_count s sheet.counts)

    module _ (r : Bool) (is : (l : Lists) → length l.ids ≡ a.ids → length l.lengths ≡ a.lengths → r ≡ has_room sheet.counts.p sheet.counts.n (lent_of a l)) where
      pub no_room : r ≡ false → Opens s a (Err NoRoom)
      unfolding Opens untouched answer_of
      no_room e l sizes = by_room l ∙ rw (← is l sizes.0 sizes.1, e)

      -- some lists of these sizes
      abbrev any_lists : Lists
      any_lists = record { ids = replicate a.ids 0; lengths = replicate a.lengths f0 }

      room : r ≡ true → Room sheet.counts a
      room e =
          let ids : length any_lists.ids ≡ a.ids = length-replicate a.ids 0 in
          let lengths : length any_lists.lengths ≡ a.lengths = length-replicate a.lengths f0 in
          let facts = room_facts sheet.counts.p sheet.counts.n (lent_of a any_lists) (sym (is any_lists ids lengths) ∙ e) in
          record {
            node = facts.node;
            heap = facts.heap;
            coverage = facts.coverage;
            ids = omega (arith, facts.ids, ids);
            lengths = omega (arith, facts.lengths, lengths);
          }

      pub opened : r ≡ true → Opens s a (Ok sheet)
      unfolding Opens
      opened e = (room e, λ l sizes. by_room l ∙ rw (← is l sizes.0 sizes.1, e))
