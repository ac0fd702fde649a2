-- The bits of both words.
use Rattle.release.proofs.RoleSets.{met}
use Rattle.release.proofs.roles.RoleSet.meet.Goals as goal

pub returns : goal.returns
returns c = met _ _
