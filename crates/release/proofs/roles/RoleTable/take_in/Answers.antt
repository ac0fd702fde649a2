-- Each entry takes in the roles under the lower role, where the upper one is in it.
use native.Mathlib.Omega.{arith}
use Rattle.el.proofs.Tests.{not_both}
use Rattle.release.proofs.RoleTables.{take_none, take_not, take_both, taken_in}
use Rattle.release.proofs.roles.RoleTable.take_in.Goals as goal
use Rattle.release.proofs.roles.RoleTable.take_in.Goals.{then-has, else-has}

pub loop-asked-init : goal.loop-asked-init
loop-asked-init c = take_none _

pub loop-asked-preserved : goal.loop-asked-preserved
loop-asked-preserved c = elim c.if-has.branch [
  | then-has w ↦ rw w.self-is (take_both c.loop-asked.invariant (omega arith) (c.has.ensures.sound w.if-has.true) (rw c.from.ensures at w.join.ensures))
  | else-has w ↦ rw w.self-is (take_not c.loop-asked.invariant (λ h. not_both (c.has.ensures.complete h) w.if-has.false))
]

pub returns : goal.returns
returns c pairs known = taken_in c.requires.lower c.requires.upper c.loop-asked.invariant c.loop-asked-test.false known
