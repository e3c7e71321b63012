use Rattle.location.proofs.Beginning.{kind_named}
use Rattle.location.proofs.kind.Goals as goal

pub unwrap-requires : goal.unwrap-requires
unwrap-requires c = let sheet = c.args.sheet.now in kind_named sheet.bytes.now sheet.counts sheet.well_formed c.try_from.result c.try_from.ensures
