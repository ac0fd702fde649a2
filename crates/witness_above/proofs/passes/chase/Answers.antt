-- `passes::chase` meets its contract. Invariant: turns were made; each time but the last fewer pairs are held.
use mathlib.Core.Path.{◌∙◌}
use Rattle.witness_above.proofs.Going.{went_then}
use Rattle.witness_above.proofs.passes.chase.Goals as goal

pub returns-then-more-written-clause-went : goal.returns-then-more-written-clause-went
returns-then-more-written-clause-went c = went_then c.requires.go c.loop-written.invariant.0 c.follow-more.ensures.went

pub loop-written-preserved : goal.loop-written-preserved
loop-written-preserved c = (went_then c.requires.go c.loop-written.invariant.0 c.follow-more.ensures.went, c.follow-more.ensures.notes ∙ c.loop-written.invariant.1)
