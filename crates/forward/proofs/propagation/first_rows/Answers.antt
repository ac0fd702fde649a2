-- All rows in their order. Invariant: marks that the rules allow were put.
use borrow.Author.Rules.{rules}
use Rattle.marks.specs.Passes.{none}
use Rattle.marks.proofs.Orders.{nodes_on}
use Rattle.marks.proofs.Passes.{grows_further}
use Rattle.forward.specs.Rules.{setting_stays}
use Rattle.forward.proofs.propagation.first_rows.Goals as goal

pub loop-x-init : goal.loop-x-init
loop-x-init c = (search rules, c.requires.setting, none)

pub loop-x-preserved : goal.loop-x-preserved
loop-x-preserved c =
    let before = c.loop-x.invariant in
    (nodes_on before.0 c.in-Some.ensures.steps, setting_stays c.first_row.ensures before.1, grows_further before.2 c.first_row.ensures)
