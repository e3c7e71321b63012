use Rattle.std.proofs.Common.{◌-◌, ◌∙◌, refl, ap, arith, List, take, set}
use Rattle.model.specs.Lists.{insert}
use Rattle.candidates.specs.declared.candidate.Candidate as code
use Rattle.candidates.specs.Found.{lower}
use Rattle.candidates.proofs.Inserting.{shifting_more, Put, put_there, left_out}
use Rattle.candidates.proofs.best.Best.insert.Goals.{then-self-most-via-then-self-most, then-self-most-via-else-self-most+then-x-last, else-loop-j-test, then-loop-j-test+then-not-x-self}
use Rattle.candidates.proofs.best.Best.insert.Goals as goal

pub loop-j-preserved : goal.loop-j-preserved
loop-j-preserved g c =
    let m = c.loop-j.invariant in record {
      place = refl;
      shifting = shifting_more c.args.x c.self.inside.items c.min-stay.result (omega (arith, c.min-stay.ensures, c.self.told, c.if-most-gt0.true, c.requires.room.1)) c.loop-j.self-inside.items (c.loop-j.j - 1) c.loop-j.place m.shifting (omega (arith, m.place, c.loop-j-test.true)) c.if-not-x-self.false;
    }

-- what the loop leaves, with x in its place
is_put : (g : _) (c : goal.After-self-then-self-most-1 g) → Put c.args.x c.args.most c.self.inside.count c.min-stay.result c.self.inside.items (set c.loop-j.self-inside.items c.loop-j.place c.args.x)
is_put g c =
    let b = c.self.inside in
    let m = c.loop-j.invariant in
    put_there c.args.x c.requires.scored c.args.most b.count c.min-stay.result b.items c.self.invariant.1 (omega (arith, c.self.invariant.0, c.self.told)) (rw c.self.view_is c.requires.room.0) (omega (arith, c.self.told, c.requires.room.1)) c.if-most-gt0.true c.min-stay.ensures
    c.loop-j.place c.loop-j.self-inside.items m.shifting
    (λ f. elim c.then-self-most.branch [ then-self-most-via-then-self-most w ↦ absurd (omega (arith, w.if-self-most.true)) | then-self-most-via-else-self-most+then-x-last w ↦ w.if-x-last.true ])
    (λ h. elim c.loop-j-test.branch [ else-loop-j-test w ↦ absurd (omega (arith, m.place, w.loop-j-test.false)) | then-loop-j-test+then-not-x-self w ↦ rw m.place w.if-not-x-self.true ])

pub returns-after-loop-j-clause-are : goal.returns-after-loop-j-clause-are
returns-after-loop-j-clause-are g c = (is_put g c).are ∙ ap (λ (ys : List code.Candidate). take c.args.most (insert lower c.args.x ys)) c.self.view_is

pub returns-after-loop-j-clause-rising : goal.returns-after-loop-j-clause-rising
returns-after-loop-j-clause-rising g c = (is_put g c).rising

pub invariant_of-self : goal.invariant_of-self
invariant_of-self g c =
    let p = is_put g c in
    (omega (arith, c.min-stay.ensures, c.if-most-gt0.true, c.requires.room.1), p.rising, p.long ∙ c.self.told, p.spare g.row.N c.self.invariant.3)

pub returns-else-x-last-clause-are : goal.returns-else-x-last-clause-are
returns-else-x-last-clause-are g c =
    let b = c.self.inside in
    rw c.self.view_is at (left_out c.args.x c.requires.scored c.args.most b.count c.min-stay.result b.items c.self.invariant.1 (omega (arith, c.self.invariant.0, c.self.told)) (rw c.self.view_is c.requires.room.0) (omega (arith, c.self.told, c.requires.room.1)) c.if-most-gt0.true c.min-stay.ensures c.if-self-most.false c.if-x-last.false)
