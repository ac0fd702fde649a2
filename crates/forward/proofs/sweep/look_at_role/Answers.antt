-- The edge of x with the role: a row that is full by what keeps a partner has nothing left to mark; else the nodes that are left are looked at.
use native.Mathlib.Omega.{arith}
use Rattle.marks.proofs.Passes.{pass_none}
use Rattle.marks.proofs.Lines.{empty_zeros}
use Rattle.forward.proofs.Tested.{role_small, row_kept}
use Rattle.forward.proofs.sweep.look_at_role.Goals as goal

pub keep_partners-requires-clause-spans : goal.keep_partners-requires-clause-spans
keep_partners-requires-clause-spans c = (record { inside = omega (arith, c.args.given.now.layout.few) }, empty_zeros 128)

pub keep_partners-requires-clause-role : goal.keep_partners-requires-clause-role
keep_partners-requires-clause-role c = role_small c.requires.edge

pub returns-then-keep_partners : goal.returns-then-keep_partners
returns-then-keep_partners c = pass_none (row_kept c.keep_partners.ensures.0.only (c.keep_partners.ensures.1 c.if-keep_partners.true))
