-- The roles of the edge of x, one after the other. Invariant: marks that the rules allow were put.
use native.Mathlib.Omega.{arith}
use Rattle.marks.specs.Passes.{none}
use Rattle.marks.proofs.Passes.{grows_further}
use Rattle.forward.specs.Rules.{setting_stays}
use Rattle.forward.proofs.consequences.lose_edge.Goals as goal

pub loop-next-init : goal.loop-next-init
loop-next-init c = (omega arith, c.requires.setting, none)

pub loop-next-preserved : goal.loop-next-preserved
loop-next-preserved c =
    let before = c.loop-next.invariant in
    (omega (arith, c.in-Some.ensures.inside), setting_stays c.lose_role-changed.ensures before.1, grows_further before.2 c.lose_role-changed.ensures)
