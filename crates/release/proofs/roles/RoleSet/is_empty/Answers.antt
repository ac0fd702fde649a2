-- A word is 0 where it has no bit.
use native.Mathlib.Omega.{arith}
use Rattle.release.proofs.RoleSets.{tells_empty}
use Rattle.release.proofs.roles.RoleSet.is_empty.Goals as goal

pub returns : goal.returns
returns c = tells_empty (omega arith)
