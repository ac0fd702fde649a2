-- The line has what the first i bytes of the row have.
use native.Mathlib.Omega.{arith}
use Rattle.marks.proofs.Lines.{join_none, join_more, join_end}
use Rattle.marks.proofs.Square.join.Goals as goal

pub loop-i-init : goal.loop-i-init
loop-i-init c = join_none

pub bounds-line-i : goal.bounds-line-i
bounds-line-i c = omega (arith, c.row-byte-items.ensures.long, c.requires.spans.inside, c.loop-i-test.true, c.loop-i.invariant.long)

pub bounds-line-i-in-loop-i : goal.bounds-line-i-in-loop-i
bounds-line-i-in-loop-i c = omega (arith, c.row-byte-items.ensures.long, c.requires.spans.inside, c.loop-i-test.true, c.loop-i.invariant.long)

pub loop-i-preserved : goal.loop-i-preserved
loop-i-preserved c = join_more c.row-byte-items.ensures c.loop-i.invariant c.loop-i-test.true
    (omega (arith, c.row-byte-items.ensures.long, c.requires.spans.inside, c.loop-i-test.true, c.loop-i.invariant.long))

pub returns : goal.returns
returns c = join_end c.row-byte-items.ensures c.loop-i.invariant c.loop-i-test.false
