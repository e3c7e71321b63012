use Rattle.std.proofs.Common.{◌∙◌, ap}
use Rattle.model.specs.declared.Settings.{Settings}
use Rattle.candidates.proofs.Listed.{listed}
use Rattle.candidates.proofs.find.find_candidates.Goals as goal

pub returns : goal.returns
returns c =
    let s = c.args.sheet.now in
    let most = rw (c.from-wanted.ensures ∙ ap (λ (x : Settings). x.max_candidates) c.settings.ensures) at c.min.ensures in
    listed s.bytes.now s.counts c.args.i c.requires s.well_formed c.min.result c.of.result most (rw c.new.ensures.0 at c.of.ensures.are) c.of.ensures.rising
