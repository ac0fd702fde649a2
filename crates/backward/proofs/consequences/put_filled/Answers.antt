-- The loop's invariant: the marks grow by the rule.
use native.Mathlib.Omega.{arith}
use borrow.Author.Rules.{rules}
use Rattle.marks.specs.Passes.{none}
use Rattle.marks.proofs.Passes.{grows_further}
use Rattle.backward.proofs.Tested.{over_grows}
use Rattle.backward.proofs.consequences.put_filled.Goals as goal

pub loop-y-init : goal.loop-y-init
loop-y-init c = (search rules, none)

pub loop-y-preserved-then-given-y : goal.loop-y-preserved-then-given-y
loop-y-preserved-then-given-y c = (search rules, grows_further c.loop-y.invariant.1 c.put_row.ensures)

pub loop-y-preserved-then-is_marked : goal.loop-y-preserved-then-is_marked
loop-y-preserved-then-is_marked c = (
  search rules,
  grows_further c.loop-y.invariant.1 (over_grows c.requires.filling (omega arith) (rw c.mark_square-marks.ensures at (c.is_marked.ensures.sound c.if-is_marked.true)) c.put_over.ensures),
)
