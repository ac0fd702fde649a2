-- `passes::close` meets its contract. Invariant: turns were made; each pass but the last leaves fewer pairs held, and so it stays.
use mathlib.Core.Path.{◌∙◌}
use Rattle.witness_above.proofs.Going.{went_then, done}
use Rattle.witness_above.proofs.passes.close.Goals as goal

pub returns-then-more-written : goal.returns-then-more-written
returns-then-more-written c = done c.requires.go c.loop-written.invariant.0 c.pass-more.ensures c.if-more-written.true

pub loop-written-preserved : goal.loop-written-preserved
loop-written-preserved c = let go = c.requires.go in
    (went_then go (went_then go c.loop-written.invariant.0 c.pass-more.ensures.went) c.chase-written.ensures.went, c.chase-written.ensures.notes ∙ c.loop-written.invariant.1)
