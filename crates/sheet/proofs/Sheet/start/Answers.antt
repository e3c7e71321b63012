use Rattle.model.proofs.Listed.{start_most}
use Rattle.sheet.proofs.Sheet.start.Goals as goal

pub returns : goal.returns
returns c =
    let is = rw (c.sound.ensures.0, c.sound.ensures.1) at c.start.ensures in
    (is, rw is (start_most _ _ c.args.self.now.well_formed.sound c.args.self.now.well_formed.lists _ c.requires))
