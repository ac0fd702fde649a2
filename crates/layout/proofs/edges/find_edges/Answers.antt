-- All names, one after the other. Invariant: it is told of the names before this one with which roles they have an edge.
use native.Mathlib.Omega.{arith}
use Rattle.layout.proofs.Findings.{found_end}
use Rattle.layout.proofs.edges.find_edges.Goals as goal

pub returns : goal.returns
returns c = found_end c.find_each_role-sets.ensures c.requires.few (omega (arith, c.requires.names_in_bounds, c.loop-x.auto.edges)) c.loop-x-test.false c.loop-x.invariant
