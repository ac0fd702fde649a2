-- The first bit of what is left when the bits before `from` are shifted out.
use native.Mathlib.Omega.{arith}
use Rattle.release.proofs.RoleSets.{no_next, next_role}
use Rattle.release.proofs.roles.RoleSet.next.Goals as goal

pub returns-then-rest-eq0 : goal.returns-then-rest-eq0
returns-then-rest-eq0 c = no_next _ _ c.if-rest-eq0.true

pub returns : goal.returns
returns c = next_role _ _ (omega arith) (omega (arith, c.if-rest-eq0.false))
