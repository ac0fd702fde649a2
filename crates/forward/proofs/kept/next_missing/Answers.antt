-- The next node that a line leaves open. Invariant: from `from` on, each node before the next one looked at is in the line or marked.
use native.Mathlib.Omega.{arith}
use Rattle.marks.proofs.Squares.{refuted}
use Rattle.forward.proofs.Tested.{missing_start, missing_to, missing_more, missing_found, missing_none}
use Rattle.forward.proofs.kept.next_missing.Goals as goal

pub loop-y-init : goal.loop-y-init
loop-y-init c = (omega arith, missing_start)

pub returns-then-not-has : goal.returns-then-not-has
returns-then-not-has c =
    let before = c.loop-y.invariant in
    missing_found before.0 (refuted c.has.ensures c.if-not-has.true) c.in-Some.ensures (missing_to c.in-Some.ensures before.1)

pub loop-y-preserved : goal.loop-y-preserved
loop-y-preserved c =
    let before = c.loop-y.invariant in
    (omega (arith, before.0, c.in-Some.ensures.after), missing_more (c.has.ensures.sound c.if-not-has.false) (missing_to c.in-Some.ensures before.1))

pub returns : goal.returns
returns c = missing_none c.in_default.ensures c.loop-y.invariant.1
