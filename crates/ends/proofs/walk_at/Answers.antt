use mathlib.Core.Path.{sym}
use native.Mathlib.Omega.{arith}
use Prim.Native.Nat.{◌*◌, ◌≤◌}
use lib.ListN.{length}
use Rattle.ends.proofs.Grow.{none_added, not_nearer, grown}
use Rattle.ends.proofs.walk_at.Goals as goal

pub returns-in_default : goal.returns-in_default
returns-in_default g c =
    let parts = c.split_at_mut-path.ensures in
    let fits : 2 * c.args.sheet.now.counts.n ≤ length c.extend.new.room = omega (arith, parts.back_len, c.extend.auto.room) in
    rw (sym parts.front) (none_added _ _ _ _ _ _ _ _ _ _ parts.front_len c.requires.0 (rw parts.value at c.requires.2) fits (rw (c.in_default.is, c.terminal-r.ensures) at c.extend.ensures))

pub returns-then-nearer : goal.returns-then-nearer
returns-then-nearer g c =
    let parts = c.split_at_mut-path.ensures in
    let fits : 2 * c.args.sheet.now.counts.n ≤ length c.extend.new.room = omega (arith, parts.back_len, c.extend.auto.room) in
    rw (sym parts.front)
    (grown _ _ _ _ _ _ _ _ _ _ parts.front_len c.requires.0 (rw parts.value at c.requires.2) fits (rw (c.in-Some.is, c.terminal-r.ensures) at c.extend.ensures)
    c.node-new.ensures.0 (rw c.terminal-r.ensures at c.node-old.ensures.0) c.distance.ensures c.distance-2.ensures c.if-nearer.true c.place.ensures _)

pub returns : goal.returns
returns g c =
    let parts = c.split_at_mut-path.ensures in
    let fits : 2 * c.args.sheet.now.counts.n ≤ length c.extend.new.room = omega (arith, parts.back_len, c.extend.auto.room) in
    rw (sym parts.front)
    (not_nearer _ _ _ _ _ _ _ _ _ _ parts.front_len c.requires.0 (rw parts.value at c.requires.2) fits (rw (c.in-Some.is, c.terminal-r.ensures) at c.extend.ensures)
    c.node-new.ensures.0 (rw c.terminal-r.ensures at c.node-old.ensures.0) c.distance.ensures c.distance-2.ensures c.if-nearer.false)
