-- A pass over all names, and where that is quiet, one over all rows: quiet names and rows leave nothing to mark.
use Rattle.marks.proofs.Passes.{pass_next}
use Rattle.forward.proofs.Tested.{taking_pass, quiet_rows}
use Rattle.forward.proofs.sweep.LostAboveRules.pass.Goals as goal

pub returns : goal.returns
returns c =
    let squares = c.taking.ensures.squares in
    let taken = rw (c.taking.ensures.direction, squares.0, squares.1) at c.hand_all.ensures in
    pass_next quiet_rows c.look_at_names.ensures c.if-look_at_names.false (taking_pass taken)
