-- `put_axioms` meets its contract. The invariant: the axioms of the names from the one reached on are still to be put.
use Rattle.std.proofs.Common.{arith, refl, sym, ◌∙◌}
use Rattle.output.proofs.Rest.{piece_put, nothing_left}
use Rattle.practice.specs.Practice.{has_axiom}
use Rattle.practice.proofs.NameKinds.{kind_is, has_role}
use Rattle.practice.proofs.NameAxioms.{axioms_begun, axiom_begins, no_axiom, axioms_done}
use Rattle.practice.proofs.Practice.put_axioms.Goals as goal
use Rattle.practice.proofs.Practice.put_axioms.Goals.{then-has_axiom, else-has_axiom}

pub loop-name-init : goal.loop-name-init
loop-name-init c = axioms_begun _ _ _ _ _ c.args.self.now.pooled c.after-draws.ensures (omega arith) (omega arith)

pub loop-name-preserved-in_default : goal.loop-name-preserved-in_default
unfolding has_axiom
loop-name-preserved-in_default c = no_axiom _ _ _ c.loop-name-test.true c.kind.ensures.state c.in_default.ensures.kind _ refl c.loop-name.invariant

pub put_axiom-next-requires-clause-role : goal.put_axiom-next-requires-clause-role
put_axiom-next-requires-clause-role c = λ j. has_role _ _ (sym c.has_axiom.ensures ∙ c.if-has_axiom.true) _ (rw c.in-Some.ensures.kind (kind_is _ _)) j

pub loop-name-preserved : goal.loop-name-preserved
loop-name-preserved c =
    elim c.if-has_axiom.branch [
      | then-has_axiom w ↦
          rw (w.output-is, w.draws-is, w.next-is) (piece_put (axiom_begins _ _ _ c.loop-name-test.true c.kind.ensures.state c.in-Some.ensures.kind _ w.put_axiom-next.ensures.drawn
          (sym c.has_axiom.ensures ∙ w.if-has_axiom.true)) c.loop-name.invariant w.put_axiom-next.ensures.put)
      | else-has_axiom w ↦
          rw (w.output-is, w.draws-is, w.next-is) (no_axiom _ _ _ c.loop-name-test.true c.kind.ensures.state c.in-Some.ensures.kind _
          (sym c.has_axiom.ensures ∙ w.if-has_axiom.false) c.loop-name.invariant)
    ]

pub returns : goal.returns
returns c = nothing_left (axioms_done _ _ _ _ _ _ c.loop-name-test.false) c.loop-name.invariant
