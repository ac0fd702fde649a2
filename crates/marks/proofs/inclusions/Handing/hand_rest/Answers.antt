-- The loop's invariant: the marks of the rows before x are handed, if those of the rows that were done are.
use native.Mathlib.Omega.{arith}
use mathlib.Core.Path.{refl, ◌∙◌}
use Rattle.marks.proofs.Passes.{pass_none, pass_as, pass_both, grows_frame}
use Rattle.marks.proofs.Squares.{frame_room}
use Rattle.marks.proofs.Handing.{rest_none, rest_done, rest_more, rest_end}
use Rattle.marks.proofs.inclusions.Handing.hand_rest.Goals as goal

pub loop-x-init : goal.loop-x-init
loop-x-init c = (c.requires.room, refl, pass_none rest_none)

pub loop-x-preserved-then-has : goal.loop-x-preserved-then-has
loop-x-preserved-then-has c = (c.loop-x.invariant.0, c.loop-x.invariant.1, pass_as (rest_done (omega arith) (c.has.ensures.sound c.if-has.true)) c.loop-x.invariant.2)

pub loop-x-preserved : goal.loop-x-preserved
loop-x-preserved c =
    let frame = grows_frame c.hand-new.ensures.grows in (
      (frame_room frame c.loop-x.invariant.0.0, frame_room frame c.loop-x.invariant.0.1),
      frame.long ∙ c.loop-x.invariant.1,
      pass_both rest_more c.loop-x.invariant.2 c.hand-new.ensures,
    )

pub returns-then-has : goal.returns-then-has
returns-then-has c = pass_as (λ r. rest_end (omega arith) (rest_done (omega arith) (c.has.ensures.sound c.if-has.true) r)) c.loop-x.invariant.2

pub returns-else-has : goal.returns-else-has
returns-else-has c = pass_both (λ r g. rest_end (omega arith) (rest_more r g)) c.loop-x.invariant.2 c.hand-new.ensures
