-- The roles of an edge, one after the other. Invariant: from `from` on, by each role before the next one nothing is left to mark.
use native.Mathlib.Omega.{arith}
use Rattle.forward.proofs.Tested.{quiet_start, quiet_to, quiet_more, open_found, open_none}
use Rattle.forward.proofs.kept.next_open.Goals as goal

pub loop-next-init : goal.loop-next-init
loop-next-init c = (omega arith, quiet_start)

pub returns-then-not-seems_kept : goal.returns-then-not-seems_kept
returns-then-not-seems_kept c = let before = c.loop-next.invariant in open_found before.0 c.in-Some.ensures (quiet_to c.in-Some.ensures before.1)

pub loop-next-preserved : goal.loop-next-preserved
loop-next-preserved c =
    let before = c.loop-next.invariant in
    (omega (arith, before.0, c.in-Some.ensures.after), quiet_more (c.seems_kept.ensures c.if-not-seems_kept.false) (quiet_to c.in-Some.ensures before.1))

pub returns : goal.returns
returns c = open_none c.in_default.ensures c.loop-next.invariant.1
