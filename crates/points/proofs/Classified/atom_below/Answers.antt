-- `atom_below` meets its contract: an ∃ lies below a name that is defined by one, by the role and the filler.
use mathlib.Core.Path.{sym, ◌∙◌}
use borrow.Author.Tests.{eqb-true}
use Rattle.points.proofs.Raising.{other_role, by_filler}
use Rattle.points.proofs.Classified.atom_below.Goals as goal

pub returns-then-not-serves : goal.returns-then-not-serves
returns-then-not-serves c = other_role c.in-Restriction.is c.requires.of_atom.atom.value.rooted (rw c.role.ensures at (sym c.serves.ensures ∙ c.if-not-serves.true))

pub returns-else-not-serves : goal.returns-else-not-serves
returns-else-not-serves c = by_filler c.in-Restriction.is c.requires.of_atom.atom.value.rooted (eqb-true _ _ (sym c.has_kind-in-Restriction.ensures ∙ c.if-not-has_kind.false))
    (rw c.role.ensures at (sym c.serves.ensures ∙ c.if-not-serves.false))
    (rw (c.from-in-Restriction.ensures, c.filler-node.ensures) at c.is_above.ensures)
