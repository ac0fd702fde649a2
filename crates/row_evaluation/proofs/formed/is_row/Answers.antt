-- `formed::is_row` meets its contract: by the form of the row.
use Rattle.el.proofs.Tests.{always}
use Rattle.row_evaluation.proofs.RowForms.{tells_formed, never_formed, tells_equal, both_less, not_less, less_and}
use Rattle.row_evaluation.proofs.Forming.{roles_few}
use Rattle.row_evaluation.proofs.formed.is_row.Goals as goal

pub returns-in_default : goal.returns-in_default
returns-in_default c = never_formed (roles_few _ _ _ c.requires.few) (c.in_default.ensures)

pub returns-in-Top : goal.returns-in-Top
returns-in-Top c = tells_formed (roles_few _ _ _ c.requires.few) c.in-Some.ensures c.in-Top.is (always tt)

pub returns-in-Name : goal.returns-in-Name
returns-in-Name c = tells_formed (roles_few _ _ _ c.requires.few) c.in-Some.ensures c.in-Name.is (tells_equal c.has_name.ensures)

pub returns-then-one-i : goal.returns-then-one-i
returns-then-one-i c = tells_formed (roles_few _ _ _ c.requires.few) c.in-Some.ensures c.in-Conjunction.is (both_less c.if-one-i.true)

pub returns-else-one-i : goal.returns-else-one-i
returns-else-one-i c = tells_formed (roles_few _ _ _ c.requires.few) c.in-Some.ensures c.in-Conjunction.is (not_less c.if-one-i.false)

pub returns-then-over-i : goal.returns-then-over-i
returns-then-over-i c = tells_formed (roles_few _ _ _ c.requires.few) c.in-Some.ensures c.in-Restriction.is (less_and c.if-over-i.true c.has_role.ensures)

pub returns-else-over-i : goal.returns-else-over-i
returns-else-over-i c = tells_formed (roles_few _ _ _ c.requires.few) c.in-Some.ensures c.in-Restriction.is (not_less c.if-over-i.false)
