use Rattle.std.proofs.Common.{◌≤◌, ◌∙◌, refl, sym, ap, arith, length, take}
use Rattle.std.proofs.lemmas.Iterator.{YieldsList-from_slice}
use Rattle.std.proofs.lemmas.Iterator.Consumers.{YieldsList-from_first, YieldsList-from_copied, YieldsList-at}
use lib.ListN.{length-map}
use Rattle.model.specs.declared.Settings.{Settings}
use Rattle.model.specs.Candidates.{nearest}
use Rattle.sheet.specs.Contents.{contents}
use Rattle.candidates.specs.Found.{by_number, kept_at, passing_at}
use Rattle.candidates.specs.declared.closest.Seen.{Seen}
use Rattle.candidates.specs.Nearest.{least_of, seen_of}
use Rattle.candidates.proofs.Kept.{kept_distant}
use Rattle.candidates.proofs.Listed.{candidates_cut, best_are}
use Rattle.candidates.proofs.Distances.{alike, least_is, all_kept, away_amount, seen_drained}
use Rattle.candidates.proofs.closest.nearest.Goals as goal

pub returns-then-uncut : goal.returns-then-uncut
returns-then-uncut c =
    let s = c.args.sheet.now in
    let all = kept_at (contents s) c.args.i in
    let seen = seen_drained c.look-all.result c.look-all.ensures.sees (YieldsList-from_first (λ x. x) (λ xs. xs) c.new.result refl) ∙ ap seen_of c.new.ensures.0 in
    let few : length all ≤ (contents s).settings.max_candidates =
    omega (arith, ap (λ (x : Seen). x.passing) seen, length-map all by_number, c.if-uncut.true, c.from-most.ensures, ap (λ (x : Settings). x.max_candidates) c.settings.ensures) in
    rw (ap (λ (x : Seen). x.least) seen ∙ least_is all) (all_kept (contents s) c.args.i (kept_distant s.bytes.now s.counts c.args.i c.requires s.well_formed) few)

pub returns : goal.returns
returns c =
    let s = c.args.sheet.now in
    let t = contents s in
    let most = c.from-most.ensures ∙ ap (λ (x : Settings). x.max_candidates) c.settings.ensures in
    let best = rw c.new-2.ensures.0 at c.fill.ensures.are in
    let seen = seen_drained c.look.result c.look.ensures.sees (YieldsList-from_copied (YieldsList-at c.copied.ensures.source (YieldsList-from_slice c.as_slice.result.now cc))) in
    let is = ap (λ (x : Seen). x.least) seen ∙ ap least_of (c.as_slice.ensures.are ∙ best ∙ best_are s.bytes.now s.counts c.args.i c.requires s.well_formed c.from-most.result) ∙ least_is (take c.from-most.result (passing_at t c.args.i))
    ∙ ap (λ n. nearest (take n (passing_at t c.args.i))) most ∙ ap nearest (sym (candidates_cut t c.args.i)) in
    let m = away_amount t c.args.i (kept_distant s.bytes.now s.counts c.args.i c.requires s.well_formed) in
    rw is (alike _ _ m m refl)
