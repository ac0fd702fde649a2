-- `find_idle` meets its contract: of the names before, the line has those whose axioms do not reach.
use Rattle.points.proofs.LosingNodes.{idle_added, active_passed}
use Rattle.points.proofs.Classified.find_idle.Goals.{then-not-axiom_reaches, else-not-axiom_reaches}
use Rattle.points.proofs.Classified.find_idle.Goals as goal

pub loop-name-preserved : goal.loop-name-preserved
loop-name-preserved c = elim c.if-not-axiom_reaches.branch [
  | then-not-axiom_reaches w ↦ rw w.idle-is (idle_added c.loop-name.invariant c.axiom_reaches.ensures w.if-not-axiom_reaches.true w.add.ensures)
  | else-not-axiom_reaches w ↦ rw w.idle-is (active_passed c.loop-name.invariant c.axiom_reaches.ensures w.if-not-axiom_reaches.false)
]
