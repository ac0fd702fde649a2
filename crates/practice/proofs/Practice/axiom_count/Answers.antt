-- `axiom_count` meets its contract. The invariant: the axioms of the names from the one reached on are still to be counted.
use Rattle.std.proofs.Common.{refl, sym, ◌∙◌}
use Rattle.practice.specs.Practice.{has_axiom}
use Rattle.practice.proofs.NameAxioms.{none_counted, one_counted, none_more, all_counted}
use Rattle.practice.proofs.Practice.axiom_count.Goals as goal
use Rattle.practice.proofs.Practice.axiom_count.Goals.{then-has_axiom, else-has_axiom}

pub loop-name-init : goal.loop-name-init
loop-name-init c = none_counted c.args.self.now.pooled

pub loop-name-preserved-in_default : goal.loop-name-preserved-in_default
unfolding has_axiom
loop-name-preserved-in_default c = none_more _ _ _ c.loop-name-test.true c.kind.ensures.state c.in_default.ensures.kind c.loop-name.invariant refl

pub loop-name-preserved : goal.loop-name-preserved
loop-name-preserved c =
    elim c.if-has_axiom.branch [
      | then-has_axiom w ↦
          rw w.count-is (one_counted _ _ _ c.loop-name-test.true c.kind.ensures.state c.in-Some.ensures.kind c.loop-name.invariant (sym c.has_axiom.ensures ∙ w.if-has_axiom.true))
      | else-has_axiom w ↦
          rw w.count-is (none_more _ _ _ c.loop-name-test.true c.kind.ensures.state c.in-Some.ensures.kind c.loop-name.invariant (sym c.has_axiom.ensures ∙ w.if-has_axiom.false))
    ]

pub returns : goal.returns
returns c = all_counted c.loop-name.invariant c.loop-name-test.false
