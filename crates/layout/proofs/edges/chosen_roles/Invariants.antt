-- The roles of the signature, one after the other. Invariant: the set has those before this one.
use Rattle.layout.proofs.Findings.{ChosenTo}
use Rattle.layout.proofs.edges.chosen_roles.Given as goal

abbrev pub invariant-loop-number : goal.invariant-loop-number
invariant-loop-number l = ChosenTo l.signature.bytes.now l.signature.names l.signature.roles l.number l.chosen.0
