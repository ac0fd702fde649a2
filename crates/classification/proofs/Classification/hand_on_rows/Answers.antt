-- The marks are put by the rules.
use native.Mathlib.Omega.{arith}
use Rattle.marks.specs.Passes.{none}
use Rattle.marks.proofs.Passes.{grows_further}
use Rattle.marks.proofs.Orders.{nodes_on}
use borrow.Author.Rules.{rules}
use Rattle.classification.proofs.Marking.{setting_stays, shaped_row}
use Rattle.classification.proofs.Classification.hand_on_rows.Goals as goal

pub loop-name-init : goal.loop-name-init
loop-name-init c = (search rules, none)

pub is_conjunction-requires : goal.is_conjunction-requires
is_conjunction-requires c = shaped_row c.requires.shaped c.if-name-self.true

pub hand_on_row-requires : goal.hand_on_row-requires
hand_on_row-requires c = record { setting = setting_stays c.loop-name.invariant.1 c.requires; node_le_names = omega (arith, c.if-name-self.true) }

pub loop-name-preserved-then-is_conjunction : goal.loop-name-preserved-then-is_conjunction
loop-name-preserved-then-is_conjunction c = (nodes_on c.loop-name.invariant.0 c.in-Some.ensures.steps, grows_further c.loop-name.invariant.1 c.hand_on_row.ensures)

pub loop-name-preserved : goal.loop-name-preserved
loop-name-preserved c = (nodes_on c.loop-name.invariant.0 c.in-Some.ensures.steps, c.loop-name.invariant.1)

pub returns : goal.returns
returns c = c.loop-name.invariant.1
