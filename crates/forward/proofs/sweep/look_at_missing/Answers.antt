-- The nodes that a line leaves open, one after the other. Invariant: a pass after which nothing is left to mark at the nodes before the next
-- one.
use Rattle.marks.proofs.Passes.{turns_none, turn_both}
use Rattle.forward.specs.Rules.{setting_stays}
use Rattle.forward.proofs.Tested.{cells_to, cells_end}
use Rattle.forward.proofs.sweep.look_at_missing.Goals as goal

pub loop-y-init : goal.loop-y-init
loop-y-init c = (c.requires.setting, turns_none)

pub loop-y-preserved : goal.loop-y-preserved
loop-y-preserved c =
    let before = c.loop-y.invariant in
    let turn = c.look_at_pair-changed.ensures in
    let next = rw c.mark_square-marks.ensures at c.in-Some.ensures in
    (setting_stays turn.grows before.0, turn_both (cells_to c.requires.kept next before.1) turn)

pub returns : goal.returns
returns c = cells_end c.requires.kept (rw c.mark_square-marks.ensures at c.in_default.ensures) c.loop-y.invariant.1
