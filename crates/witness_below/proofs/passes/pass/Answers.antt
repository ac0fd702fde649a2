-- `passes::pass` meets its contract: the invariant says what holds after looks at the pairs so far.
use Rattle.witness_below.proofs.Going.{pair_at, look_asks, passed_skip, passed_look}
use Rattle.witness_below.proofs.passes.pass.Goals as goal

pub loop-pair-preserved-then-value-ne-OPEN : goal.loop-pair-preserved-then-value-ne-OPEN
loop-pair-preserved-then-value-ne-OPEN c = passed_skip c.loop-pair.invariant c.value.ensures c.if-value-ne-OPEN.true

pub look-step-requires : goal.look-step-requires
look-step-requires c = look_asks c.loop-pair.invariant.went.state (pair_at _ _ c.loop-pair-test.true) c.value.ensures c.if-value-ne-OPEN.false

pub loop-pair-preserved : goal.loop-pair-preserved
loop-pair-preserved c = passed_look c.loop-pair.invariant (pair_at _ _ c.loop-pair-test.true) c.look-step.ensures
