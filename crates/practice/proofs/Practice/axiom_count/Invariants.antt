-- `axiom_count` meets its contract. The invariant: the axioms of the names from the one reached on are still to be counted.
use Rattle.practice.proofs.NameAxioms.{Counted}
use Rattle.practice.proofs.Practice.axiom_count.Given as goal

abbrev pub invariant-loop-name : goal.invariant-loop-name
invariant-loop-name l = Counted l.self.seed l.self.names l.self.roles l.self.pool.now l._name l.kinds.state l.count
