-- An empty line has partners only; where it then makes the row full, nothing is left to mark.
use Rattle.marks.proofs.Lines.{empty_zeros}
use Rattle.forward.proofs.Tested.{partnered_none, row_kept}
use Rattle.forward.proofs.kept.seems_kept.Goals as goal

pub keep_noted-requires-clause-partnered : goal.keep_noted-requires-clause-partnered
keep_noted-requires-clause-partnered c = partnered_none (empty_zeros 128)

pub returns : goal.returns
returns c e = row_kept (rw (c.filler-end.ensures, c.of.ensures.0) at c.keep_noted.ensures) (rw c.mark_square-marks.ensures at (c.seems_full.ensures e))
