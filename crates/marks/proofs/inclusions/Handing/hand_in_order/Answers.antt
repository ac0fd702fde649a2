-- The loop's invariant: the marks of the rows that are done are handed.
use mathlib.Core.Path.{refl, ◌∙◌}
use Rattle.marks.proofs.Passes.{pass_none, pass_both, grows_frame}
use Rattle.marks.proofs.Squares.{frame_room}
use Rattle.marks.proofs.Handing.{done_none, done_more}
use Rattle.marks.proofs.Orders.{nodes_on}
use borrow.Author.Rules.{rules}
use Rattle.marks.proofs.inclusions.Handing.hand_in_order.Goals as goal

pub loop-x-init : goal.loop-x-init
loop-x-init c = (search rules, c.requires.room, (refl, refl), pass_none (done_none c.requires.spans.1))

pub loop-x-preserved : goal.loop-x-preserved
loop-x-preserved c =
    let frame = grows_frame c.hand-new.ensures.grows in (
      nodes_on c.loop-x.invariant.0 c.in-Some.ensures.steps,
      (frame_room frame c.loop-x.invariant.1.0, frame_room frame c.loop-x.invariant.1.1),
      (frame.long ∙ c.loop-x.invariant.2.0, c.add.auto.line ∙ c.loop-x.invariant.2.1),
      pass_both (done_more c.add.ensures) c.loop-x.invariant.3 c.hand-new.ensures,
    )
