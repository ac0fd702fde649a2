-- One name: where it is chosen, the pass over what the line of those below it lacks; else there is nothing to mark.
use mathlib.Core.Path.{sym, ◌∙◌}
use Rattle.marks.proofs.Passes.{pass_none}
use Rattle.marks.proofs.Lines.{empty_zeros}
use Rattle.forward.proofs.Tested.{by_name_pass, by_name_none}
use Rattle.forward.proofs.sweep.look_at_name.Goals as goal

pub returns-then-has_name : goal.returns-then-has_name
returns-then-has_name c =
    let chosen = sym c.has_name.ensures ∙ c.if-has_name.true in
    by_name_pass c.requires.named c.requires.x_lt_names chosen (empty_zeros 128) c.join_below.ensures (rw c.mark_square-marks.ensures at c.absorb_missing.ensures)

pub returns : goal.returns
returns c = pass_none (by_name_none (sym c.has_name.ensures ∙ c.if-has_name.false))
