-- The tests of a role, in the order of the definition.
use native.Mathlib.Omega.{arith}
use Rattle.release.specs.Entries.{role_reading}
use Rattle.release.proofs.Faults.{role_7, role_11, role_none}
use Rattle.release.proofs.Refusing.{refuses, accepts}
use Rattle.release.proofs.axiom.Source.read_role.Goals as goal

pub returns-then-self-at : goal.returns-then-self-at
unfolding role_reading
returns-then-self-at c = refuses 1 7 _ _ (omega arith) (role_7 _ _ _ c.if-self-at.true)

pub returns-then-self-from : goal.returns-then-self-from
unfolding role_reading
returns-then-self-from c = refuses 1 11 _ _ (omega arith) (role_11 _ _ _ c.if-self-at.false (omega (arith, c.if-self-from.true, c.from.ensures)))

pub returns : goal.returns
unfolding role_reading
returns c = accepts 1 _ _ (role_none _ _ _ c.if-self-at.false (omega (arith, c.if-self-from.false, c.from.ensures)))
