-- The loop's invariant: the marks grow by the rule.
use borrow.Author.Rules.{rules}
use Rattle.marks.specs.Passes.{none}
use Rattle.marks.proofs.Passes.{grows_further}
use Rattle.backward.proofs.consequences.put_all_columns.Goals as goal

pub loop-y-init : goal.loop-y-init
loop-y-init c = (search rules, none)

pub loop-y-preserved : goal.loop-y-preserved
loop-y-preserved c = (search rules, grows_further c.loop-y.invariant.1 c.put_columns.ensures)
