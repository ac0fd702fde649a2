-- Cleared bytes, and then column after column.
use mathlib.Core.Path.{sym, ◌∙◌}
use native.Mathlib.Omega.{arith}
use Rattle.role_result.proofs.Pairs.{columns_start, columns_more, columns_skip, columns_end}
use Rattle.role_result.proofs.RoleComparison.write_role_result.Goals.{then-has_role, else-has_role}
use Rattle.role_result.proofs.RoleComparison.write_role_result.Goals as goal

pub loop-upper-init : goal.loop-upper-init
loop-upper-init c = columns_start _ c.clear.ensures

pub loop-upper-preserved : goal.loop-upper-preserved
loop-upper-preserved c = elim c.if-has_role.branch [
  | then-has_role w ↦ rw w.role_result-is (columns_more _ c.loop-upper.invariant w.write_column.ensures)
  | else-has_role w ↦ rw w.role_result-is (columns_skip _ (sym c.has_role.ensures ∙ w.if-has_role.false) c.loop-upper.invariant)
]

pub returns : goal.returns
returns c = columns_end _ c.requires.read c.requires.room c.loop-upper-test.false c.loop-upper.invariant
