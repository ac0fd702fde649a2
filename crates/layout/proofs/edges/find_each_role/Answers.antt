-- All roles, one after the other. Invariant: the sets of the roles before this one are found.
use mathlib.Core.Path.{refl, ◌∙◌}
use lib.ListN.{length-set}
use native.Mathlib.Omega.{arith}
use Rattle.layout.proofs.Findings.{written_none, written_more}
use Rattle.layout.proofs.edges.find_each_role.Goals as goal

pub loop-own-init : goal.loop-own-init
loop-own-init c = (refl, written_none)

pub loop-own-preserved : goal.loop-own-preserved
loop-own-preserved c = (length-set _ _ _ ∙ c.loop-own.invariant.0, written_more c.find_standing.result (omega (arith, c.loop-own.invariant.0)) c.loop-own.invariant.1 c.find_standing.ensures)

pub returns : goal.returns
returns c = record { set = c.chosen_roles-chosen.result.0; chosen = c.chosen_roles-chosen.ensures; role = λ q h. c.loop-own.invariant.1.at q (omega arith) }
