-- The edge of x with the role for all nodes at once: a row that is full by what keeps a partner has nothing left to mark; else what the line of
-- all that do lacks is lost.
use native.Mathlib.Omega.{arith}
use Rattle.marks.proofs.Passes.{pass_none}
use Rattle.marks.proofs.Lines.{empty_zeros}
use Rattle.forward.proofs.Tested.{role_small, edges_lost, row_kept, row_quiet, row_lost}
use Rattle.forward.proofs.consequences.lose_row.Goals as goal

pub keep_partners-requires-clause-spans : goal.keep_partners-requires-clause-spans
keep_partners-requires-clause-spans c = (record { inside = omega (arith, c.args.given.now.layout.few) }, empty_zeros 128)

pub keep_partners-requires-clause-role : goal.keep_partners-requires-clause-role
keep_partners-requires-clause-role c = role_small c.requires.edge

pub returns-then-keep_partners : goal.returns-then-keep_partners
returns-then-keep_partners c =
    row_quiet (pass_none (row_kept c.keep_partners.ensures.0.only (c.keep_partners.ensures.1 c.if-keep_partners.true)))

pub returns : goal.returns
returns c =
    row_lost (edges_lost c.requires.setting c.requires.edge c.keep_partners.ensures.0 (rw c.mark_square-marks.ensures at c.mark_missing.ensures))
