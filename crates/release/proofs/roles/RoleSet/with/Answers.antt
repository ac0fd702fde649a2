-- The bit of the role is put into the word.
use Rattle.release.proofs.RoleSets.{with_role, with_none}
use Rattle.release.proofs.roles.RoleSet.with.Goals as goal

pub returns-then-role-lt32 : goal.returns-then-role-lt32
returns-then-role-lt32 c = with_role _ c.if-role-lt32.true

pub returns : goal.returns
returns c = with_none _ c.if-role-lt32.false
