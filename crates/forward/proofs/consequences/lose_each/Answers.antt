-- The nodes noted, one after the other. Invariant: marks that the rules allow were put, if the answer so far says so.
use Rattle.marks.specs.Passes.{anything}
use Rattle.marks.proofs.Passes.{pass_none, pass_both}
use Rattle.forward.specs.Rules.{setting_stays}
use Rattle.forward.proofs.consequences.lose_each.Goals as goal

pub loop-y-init : goal.loop-y-init
loop-y-init c = (c.requires.setting, pass_none anything)

pub loop-y-preserved : goal.loop-y-preserved
loop-y-preserved c =
    let before = c.loop-y.invariant in
    (setting_stays c.look_at_pair-changed.ensures.grows before.0, pass_both (λ d e. anything) before.1 c.look_at_pair-changed.ensures)
