-- A row that no rule marks asks nothing.
use Rattle.marks.proofs.Passes.{pass_none}
use Rattle.backward.proofs.Tested.{no_rule_row}
use Rattle.backward.proofs.sweep.look_at_row.Goals as goal

pub returns : goal.returns
returns c = pass_none (record { cells = record { at = λ y h. no_rule_row (c.may_be_lost.ensures c.if-may_be_lost.false) } })
