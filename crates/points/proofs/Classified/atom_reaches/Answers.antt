-- `atom_reaches` meets its contract: an ∃ of C lies below one of D by the role and the root.
use mathlib.Core.Path.{sym, ◌∙◌}
use Rattle.points.proofs.LosingRoots.{other_role, by_root}
use Rattle.points.proofs.Classified.atom_reaches.Goals as goal

pub returns-else-serves : goal.returns-else-serves
returns-else-serves c = rw c.if-serves.false (other_role c.in-Restriction.is c.requires.from_root.atom.rooted (sym c.serves.ensures ∙ c.if-serves.false))

pub returns-then-serves : goal.returns-then-serves
returns-then-serves c = by_root c.in-Restriction.is c.requires.from_root.atom.rooted (sym c.serves.ensures ∙ c.if-serves.true) (rw c.from-then-serves.ensures at c.has.ensures)
