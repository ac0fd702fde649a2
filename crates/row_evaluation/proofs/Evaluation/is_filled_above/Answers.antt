-- `Evaluation::is_filled_above` meets its contract: the role has to serve for that of the restriction.
use mathlib.Core.Path.{sym}
use borrow.Author.Tests.{eqb-true}
use Rattle.row_evaluation.proofs.FillingAbove.{filled_told, other_role}
use Rattle.row_evaluation.proofs.Evaluation.is_filled_above.Goals as goal

pub returns-then-serves : goal.returns-then-serves
returns-then-serves c = filled_told c.role.ensures c.serves.ensures (eqb-true _ _ (sym c.if-not-has_kind.ensures)) c.if-serves.true c.filler.ensures c.is_above.ensures

pub returns-else-serves : goal.returns-else-serves
returns-else-serves c = other_role c.role.ensures c.serves.ensures c.if-serves.false
