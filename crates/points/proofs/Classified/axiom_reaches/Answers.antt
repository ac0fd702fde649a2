-- `axiom_reaches` meets its contract: by the filler, where the axiom is an ∃ of a role that serves.
use mathlib.Core.Path.{sym, ◌∙◌}
use Rattle.points.proofs.LosingNodes.{by_filler}
use Rattle.points.proofs.Classified.axiom_reaches.Goals as goal

pub returns : goal.returns
returns c = by_filler (sym c.is_restriction.ensures ∙ c.if-not-is_restriction.false) (rw c.role.ensures at (sym c.serves.ensures ∙ c.if-not-serves.false)) (rw c.filler-filler.ensures at c.has.ensures)
