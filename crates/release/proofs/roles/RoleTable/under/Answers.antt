-- The entry, where there is one.
use native.Mathlib.Omega.{arith}
use Rattle.release.proofs.RoleTables.{entry_serves, none_serves}
use Rattle.release.proofs.roles.RoleTable.under.Goals as goal

pub returns-then-from-lt-ROLES : goal.returns-then-from-lt-ROLES
returns-then-from-lt-ROLES c = rw c.from-then-from-lt-ROLES.ensures (entry_serves _ (omega (arith, c.if-from-lt-ROLES.true, c.from.ensures)))

pub returns : goal.returns
returns c = none_serves _ (omega (arith, c.if-from-lt-ROLES.false, c.from.ensures))
