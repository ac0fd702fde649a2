-- The roles of the signature, one after the other. Invariant: the set has those before this one.
use Rattle.layout.proofs.Findings.{chosen_none}
use Rattle.layout.proofs.edges.chosen_roles.Goals as goal

pub loop-number-init : goal.loop-number-init
loop-number-init c = chosen_none
