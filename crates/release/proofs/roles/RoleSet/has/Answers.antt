-- A role's bit is tested, and that there is one.
use native.Mathlib.Omega.{arith}
use Rattle.release.proofs.RoleSets.{tells_role, tells_no_role}
use Rattle.release.proofs.roles.RoleSet.has.Goals as goal

pub returns-then-self-role-eq1 : goal.returns-then-self-role-eq1
returns-then-self-role-eq1 c = tells_role (omega arith) c.if-self-role-eq1.true

pub returns-else-self-role-eq1 : goal.returns-else-self-role-eq1
returns-else-self-role-eq1 c = tells_no_role (omega arith) c.if-self-role-eq1.false
