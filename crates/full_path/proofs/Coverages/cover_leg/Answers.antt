use Rattle.std.proofs.Common.{◌∙◌, arith, append-nil}
use Rattle.sheet.specs.Contents.{contents}
use Rattle.rules.specs.Code.{terminal_of}
use Rattle.model.proofs.Parsed.{number_is}
use Rattle.full_path.proofs.Covered.{whole_more, whole_last}
use Rattle.full_path.proofs.Coverages.cover_leg.Goals as goal

pub loop-number-init : goal.loop-number-init
loop-number-init c =
    let sheet = c.args.sheet.now in
    let first = c.add_terminal.ensures.added (contents sheet) sheet.counts.e (number_is sheet.bytes.now sheet.counts) c.requires.1 (grind (arith, c.requires.0.head)) in
    record { sizes = c.add_terminal.ensures.room.0; few = omega arith; below = first.0; covered = rw append-nil (first.1 ∙ grind arith) }

pub loop-number-preserved : goal.loop-number-preserved
loop-number-preserved c =
    let sheet = c.args.sheet.now in
    let a = c.loop-number in
    let sizes = a.invariant.sizes in
    let more = c.add.ensures.added (contents sheet) sheet.counts.e (number_is sheet.bytes.now sheet.counts) a.invariant.below (c.requires.0.numbers _ c.loop-number-test.true) in
    record {
      sizes = (omega arith, omega arith);
      few = omega arith;
      below = more.0;
      covered = whole_more (contents sheet) _ _ _ c.args.middle.now a.number-index c.loop-number-test.true a.invariant.covered more.1 c.length_m.ensures;
    }

pub returns-clause-covered : goal.returns-clause-covered
returns-clause-covered c =
    let sheet = c.args.sheet.now in
    let a = c.loop-number in
    let last = c.add_terminal-2.ensures.added (contents sheet) sheet.counts.e (number_is sheet.bytes.now sheet.counts) a.invariant.below c.requires.0.tail in
    (last.0, whole_last (contents sheet) _ _ _ c.args.middle.now a.number-index (omega arith) (terminal_of c.args.r.now.tail) a.invariant.covered last.1)
