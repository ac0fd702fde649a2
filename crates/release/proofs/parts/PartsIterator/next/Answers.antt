-- The conjunct at which the walk stands.
use mathlib.Core.Path.{refl, ◌∙◌}
use native.Mathlib.Omega.{arith}
use Rattle.release.specs.Parts.{part_of}
use Rattle.release.proofs.parts.PartsIterator.next.Goals as goal

pub returns-clause-steps : goal.returns-clause-steps
unfolding part_of
returns-clause-steps c = record { among = omega (arith, c.if-self.false); part = c.number.ensures ∙ rw c.width.ensures; goes_on = refl }
