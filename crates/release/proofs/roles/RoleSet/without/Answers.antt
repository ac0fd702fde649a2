-- The bits of the first word alone.
use Rattle.release.proofs.RoleSets.{without}
use Rattle.release.proofs.roles.RoleSet.without.Goals as goal

pub returns : goal.returns
returns c = without _ _
