-- The edges that end at a node, one after the other. Invariant: marks that the rules allow were put.
use Rattle.marks.specs.Passes.{none}
use Rattle.marks.proofs.Passes.{grows_further}
use Rattle.forward.specs.Rules.{setting_stays}
use Rattle.forward.proofs.consequences.lose_edges.Goals as goal

pub loop-x-init : goal.loop-x-init
loop-x-init c = (c.requires.setting, none)

pub loop-x-preserved-then-lose_edge : goal.loop-x-preserved-then-lose_edge
loop-x-preserved-then-lose_edge c = (setting_stays c.lose_edge.ensures c.loop-x.invariant.0, grows_further c.loop-x.invariant.1 c.lose_edge.ensures)

pub loop-x-preserved : goal.loop-x-preserved
loop-x-preserved c = (setting_stays c.lose_edge.ensures c.loop-x.invariant.0, grows_further c.loop-x.invariant.1 c.lose_edge.ensures)
