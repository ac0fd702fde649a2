-- The bits of either word.
use Rattle.release.proofs.RoleSets.{joined}
use Rattle.release.proofs.roles.RoleSet.join.Goals as goal

pub returns : goal.returns
returns c = joined _ _
