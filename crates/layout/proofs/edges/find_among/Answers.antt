-- The roles of the set, one after the other. Invariant: found are those before the next one that lie so.
use native.Mathlib.Omega.{arith}
use Rattle.layout.proofs.Findings.{role_none, role_end}
use Rattle.layout.proofs.edges.find_among.Goals as goal

pub loop-next-init : goal.loop-next-init
loop-next-init c = (omega arith, role_none)

pub returns : goal.returns
returns c = role_end (omega arith) c.in_default.ensures c.loop-next.invariant.1
