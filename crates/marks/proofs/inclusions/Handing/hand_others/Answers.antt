-- The loop's invariant: what is known of the rows above row x before the next column, and of those that the line has.
use mathlib.Core.Path.{refl, ◌∙◌}
use Rattle.marks.proofs.Passes.{pass_none, grows_frame}
use Rattle.marks.proofs.Squares.{frame_room}
use Rattle.marks.proofs.Handing.{chain, known_start, known_turn}
use Rattle.marks.proofs.inclusions.Handing.hand_others.Goals as goal

pub loop-above-init : goal.loop-above-init
loop-above-init c = (c.requires.room, (refl, refl), pass_none known_start)

pub loop-above-preserved : goal.loop-above-preserved
loop-above-preserved c =
    let frame = grows_frame c.hand_one-new.ensures.pass.grows in (
      (frame_room frame c.loop-above.invariant.0.0, frame_room frame c.loop-above.invariant.0.1),
      (frame.long ∙ c.loop-above.invariant.1.0, c.hand_one-new.auto.covered ∙ c.loop-above.invariant.1.1),
      known_turn (chain _ _) c.in-Some.ensures c.hand_one-new.ensures.covering c.loop-above.invariant.2 c.hand_one-new.ensures.pass,
    )
