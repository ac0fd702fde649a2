-- `passes::follow` meets its contract. Invariant: turns were made; nothing is said of which.
use mathlib.Core.Path.{◌∙◌}
use Rattle.witness_above.proofs.Going.{went_then}
use Rattle.witness_above.proofs.passes.follow.Goals.{then-notice, else-notice}
use Rattle.witness_above.proofs.passes.follow.Goals as goal

pub loop-name-preserved : goal.loop-name-preserved
loop-name-preserved c = elim c.if-notice.branch [
  | then-notice w ↦ rw (w.work-is, w.rows-is, w.numbers-is, w.written-is)
      (went_then c.requires.go c.loop-name.invariant.0 w.turn_edged-written.ensures.went, c.notice.ensures ∙ c.loop-name.invariant.1)
  | else-notice w ↦ rw (w.work-is, w.rows-is, w.numbers-is, w.written-is) (c.loop-name.invariant.0, c.notice.ensures ∙ c.loop-name.invariant.1)
]
