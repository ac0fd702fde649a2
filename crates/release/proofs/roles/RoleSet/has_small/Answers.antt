-- A role's bit is tested.
use Rattle.release.proofs.RoleSets.{tells_bit}
use Rattle.release.proofs.roles.RoleSet.has_small.Goals as goal

pub returns : goal.returns
returns c = tells_bit _ _
