-- A byte is chosen where the number is in range.
use borrow.Author.Tests.{lt-ltb, le-ltb}
use mathlib.Core.Path.{◌∙◌}
use Rattle.signature.specs.Building.{with_role}
use Rattle.signature.proofs.Signature.with_role.Goals as goal

pub returns-then-role-from : goal.returns-then-role-from
unfolding with_role
returns-then-role-from c = c.choose.ensures ∙ rw c.from-then-role-from.ensures (simp (lt-ltb _ _ (rw c.from.ensures at c.if-role-from.true)))

pub returns-else-role-from : goal.returns-else-role-from
unfolding with_role
returns-else-role-from c = simp (le-ltb _ _ (rw c.from.ensures at c.if-role-from.false))
