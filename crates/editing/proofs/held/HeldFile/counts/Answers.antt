-- Each end of the test is one of the definition's cases.
use mathlib.Core.Path.{sym, ◌∙◌}
use Rattle.rewriting.proofs.Stands.{has_version}
use Rattle.editing.proofs.HeldFiles.{held_past, held_refused, held_accepted, held_other, held_counts}
use Rattle.editing.proofs.held.HeldFile.counts.Goals as goal

pub returns-then-self-gt-LENGTH : goal.returns-then-self-gt-LENGTH
returns-then-self-gt-LENGTH c = held_past _ c.if-self-gt-LENGTH.true

pub returns-in_default : goal.returns-in_default
returns-in_default c = held_refused _ c.if-self-gt-LENGTH.false c.text-file.ensures _ c.in_default.ensures

pub of-requires : goal.of-requires
of-requires c = has_version _ (held_accepted _ c.if-self-gt-LENGTH.false c.text-file.ensures c.in-Ok.ensures)

pub returns-then-width-eq1 : goal.returns-then-width-eq1
returns-then-width-eq1 c = held_counts _ c.if-self-gt-LENGTH.false c.text-file.ensures c.in-Ok.ensures (sym c.if-width-eq1.true ∙ (c.width.ensures ∙ c.of.ensures.width))

pub returns : goal.returns
returns c = held_other _ c.if-self-gt-LENGTH.false c.text-file.ensures c.in-Ok.ensures (c.width.ensures ∙ c.of.ensures.width) c.if-width-eq1.false
