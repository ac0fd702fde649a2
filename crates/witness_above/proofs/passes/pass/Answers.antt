-- `passes::pass` meets its contract. Invariant: turns were made for the names before this one.
use Rattle.witness_above.proofs.Going.{passed_turn}
use Rattle.witness_above.proofs.passes.pass.Goals as goal

pub loop-name-preserved : goal.loop-name-preserved
loop-name-preserved c = passed_turn c.requires c.loop-name-test.true c.loop-name.invariant (c.turn_chosen-named.ensures.went, c.turn_chosen-named.ensures.quiet)
    (c.turn_edged-written.ensures.went, c.turn_edged-written.ensures.quiet)
