-- All roles, one after the other. Invariant: under each before this one no other lies.
use Rattle.layout.proofs.Findings.{AloneTo}
use Rattle.layout.proofs.edges.are_alone.Given as goal

abbrev pub invariant-loop-number : goal.invariant-loop-number
invariant-loop-number l = AloneTo l.first.table.now l.number
