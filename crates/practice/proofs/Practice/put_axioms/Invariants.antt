-- `put_axioms` meets its contract. The invariant: the axioms of the names from the one reached on are still to be put.
use Rattle.rewriting.specs.Bytes.{axioms_bytes}
use Rattle.output.proofs.Rest.{Rest}
use Rattle.practice.specs.Practice.{practice_axioms}
use Rattle.practice.proofs.NameAxioms.{axioms_left}
use Rattle.practice.proofs.Practice.put_axioms.Given as goal

abbrev pub invariant-loop-name : goal.invariant-loop-name
invariant-loop-name l =
    Rest l.initial.output l.at (axioms_bytes 1 (practice_axioms l.self.seed l.self.names l.self.roles)) l.output l.next
    (axioms_bytes 1 (axioms_left l.self.names l.self.roles l.self.pool.now l.name l.kinds.state l.draws.state))
