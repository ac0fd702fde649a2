-- All names, one after the other. Invariant: it is told of the names before this one with which roles they have an edge.
use Rattle.layout.specs.Findings.{EdgesOf}
use Rattle.layout.proofs.Findings.{Written}
use Rattle.layout.proofs.edges.find_edges.Given as goal

abbrev pub invariant-loop-x : goal.invariant-loop-x
invariant-loop-x l = Written (EdgesOf l.first.table.now l.sets) l.x l.edges
