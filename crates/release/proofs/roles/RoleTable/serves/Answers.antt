-- The bit of the entry, where there is one.
use mathlib.Core.Path.{sym, ◌∙◌}
use native.Mathlib.Omega.{arith}
use Rattle.release.proofs.RoleTables.{tells_same, tells_entry, past_table}
use Rattle.release.proofs.roles.RoleTable.serves.Goals as goal

pub returns-then-from-lt-ROLES : goal.returns-then-from-lt-ROLES
returns-then-from-lt-ROLES c = tells_same (rw c.from-then-from-lt-ROLES.ensures at c.has.ensures) (tells_entry _ (omega (arith, c.if-from-lt-ROLES.true, c.from.ensures)))

pub returns : goal.returns
returns c = c.eq.ensures ∙ sym (past_table _ _ (omega (arith, c.if-from-lt-ROLES.false, c.from.ensures)))
