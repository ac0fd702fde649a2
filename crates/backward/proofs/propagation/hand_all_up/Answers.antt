-- All rows, those of lower rows first. Invariant: two walks of the order from the last node on, and marks grow by the rule.
use borrow.Author.Rules.{rules}
use Rattle.marks.specs.Passes.{none}
use Rattle.marks.proofs.Orders.{nodes_on, node_few}
use Rattle.marks.proofs.Passes.{grows_further}
use Rattle.backward.proofs.propagation.hand_all_up.Goals as goal

pub loop-x-init : goal.loop-x-init
loop-x-init c = (search rules, nodes_on (rw c.rev-ahead.ensures.source c.nodes.ensures) c.next.ensures.steps, none)

pub hand_up-requires-clause-x_le_names : goal.hand_up-requires-clause-x_le_names
hand_up-requires-clause-x_le_names c = node_few c.loop-x.invariant.0 c.in-Some.ensures.steps

pub loop-x-preserved : goal.loop-x-preserved
loop-x-preserved c =
    let before = c.loop-x.invariant in
    (nodes_on before.0 c.in-Some.ensures.steps, nodes_on before.1 c.next-near.ensures.steps, grows_further before.2 c.hand_up.ensures)
