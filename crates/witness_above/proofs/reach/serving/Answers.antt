-- `reach::serving` meets its contract. Invariant: the roles that serve for those found so far.
use native.Mathlib.Omega.{arith}
use Rattle.witness_above.proofs.EdgeRoles.{serving_none, serving_more, serving_all}
use Rattle.witness_above.proofs.reach.serving.Goals as goal

pub loop-next-init : goal.loop-next-init
loop-next-init c = (omega arith, serving_none)

pub loop-next-preserved : goal.loop-next-preserved
loop-next-preserved c = (omega (arith, c.in-Some.ensures.inside), serving_more c.loop-next.invariant.1 c.in-Some.ensures c.under.ensures c.join-serving.ensures)

pub returns : goal.returns
returns c = serving_all c.loop-next.invariant.1 c.requires c.in_default.ensures
