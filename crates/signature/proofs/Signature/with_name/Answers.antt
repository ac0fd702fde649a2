-- A byte is chosen where the number is in range.
use borrow.Author.Tests.{lt-ltb, le-ltb}
use mathlib.Core.Path.{◌∙◌}
use Rattle.signature.specs.Building.{with_name}
use Rattle.signature.proofs.Signature.with_name.Goals as goal

pub returns-then-name-from : goal.returns-then-name-from
unfolding with_name
returns-then-name-from c = c.choose.ensures ∙ simp (lt-ltb _ _ (rw c.from.ensures at c.if-name-from.true))

pub returns-else-name-from : goal.returns-else-name-from
unfolding with_name
returns-else-name-from c = simp (le-ltb _ _ (rw c.from.ensures at c.if-name-from.false))
