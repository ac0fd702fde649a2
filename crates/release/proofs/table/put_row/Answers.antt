-- The new table is the old one with one row put in.
use native.Mathlib.Omega.{arith}
use Rattle.release.proofs.Rows.{row_put}
use Rattle.release.proofs.table.put_row.Goals as goal

pub returns : goal.returns
returns c = row_put _ _ (omega (arith, c.requires.row))
