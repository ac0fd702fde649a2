-- The row of a signature name; another name asks nothing.
use mathlib.Core.Path.{sym, ◌∙◌}
use Rattle.el.proofs.Tests.{not_both}
use Rattle.marks.proofs.Lines.{empty_zeros}
use Rattle.marks.proofs.Passes.{pass_none}
use Rattle.backward.proofs.Tested.{name_row}
use Rattle.backward.proofs.sweep.look_at_name.Goals as goal

pub returns-then-has_name : goal.returns-then-has_name
returns-then-has_name c = name_row c.requires.named c.requires.x_le_names (sym c.has_name.ensures ∙ c.if-has_name.true) (empty_zeros 128) (rw c.second_square.ensures at c.join.ensures)
    (rw c.mark_square-marks.ensures at c.absorb_missing-names.ensures) (rw c.mark_square-marks.ensures at c.mark-nothing.ensures)

pub returns : goal.returns
returns c = pass_none (record { cells = record { at = λ y h. record { marked = λ p. absurd (not_both p.chosen_name (sym c.has_name.ensures ∙ c.if-has_name.false)) } } })
