-- The roles, one after the other. Invariant: of those that are kept one serves for each role.
use native.Mathlib.Omega.{arith}
use Rattle.marks.proofs.Squares.{refuted}
use Rattle.layout.proofs.Findings.{lowest_all, lowest_less}
use Rattle.layout.proofs.edges.lowest.Goals as goal

pub loop-next-init : goal.loop-next-init
loop-next-init c = (omega arith, lowest_all _)

pub loop-next-preserved : goal.loop-next-preserved
loop-next-preserved c = (
  omega (arith, c.in-Some.ensures.inside),
  lowest_less c.loop-next.invariant.1 c.with.ensures c.without-others.ensures c.under.ensures c.meet.ensures (omega arith) (refuted c.is_empty.ensures c.if-is_empty.false),
)
