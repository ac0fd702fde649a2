-- `after` meets its contract: so many draws are made.
use Rattle.std.proofs.Common.{refl, sym, ap, ◌∙◌}
use Rattle.practice.specs.Draws.{next, after_draws}
use Rattle.practice.proofs.Choices.{one_draw_more}
use Rattle.practice.proofs.draws.Draws.after.Goals as goal

pub loop-draw-init : goal.loop-draw-init
unfolding after_draws
loop-draw-init c = refl

pub loop-draw-preserved : goal.loop-draw-preserved
loop-draw-preserved c = c.draw.ensures.state ∙ (ap next c.loop-draw.invariant ∙ sym (one_draw_more c.loop-draw._draw c.args.self.state))
