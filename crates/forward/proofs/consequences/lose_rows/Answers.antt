-- The roles of the edge of x by which something can be left, one after the other. Invariant: marks that the rules allow were put.
use native.Mathlib.Omega.{arith}
use Rattle.marks.specs.Passes.{none}
use Rattle.marks.proofs.Passes.{grows_further}
use Rattle.forward.specs.Rules.{setting_stays}
use Rattle.forward.proofs.consequences.lose_rows.Goals as goal

pub loop-role-init : goal.loop-role-init
loop-role-init c = (omega arith, c.requires.setting, none)

pub loop-role-preserved : goal.loop-role-preserved
loop-role-preserved c =
    let before = c.loop-role.invariant in
    (omega (arith, c.in-Some.ensures.inside), setting_stays c.lose_row-changed.ensures.grows before.1, grows_further before.2 c.lose_row-changed.ensures.grows)
