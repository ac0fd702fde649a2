-- The rows below x, one after the other. Invariant: marks of rows above were put in rows below.
use Rattle.marks.specs.Passes.{none}
use Rattle.marks.proofs.Squares.{frame_room, frame_area}
use Rattle.marks.proofs.Passes.{grows_frame, grows_further}
use Rattle.forward.proofs.Tested.{row_from_above}
use Rattle.forward.proofs.consequences.hand_down.Goals as goal

pub loop-lower-init : goal.loop-lower-init
loop-lower-init c = (c.requires.area, none)

pub loop-lower-preserved-then-is_marked : goal.loop-lower-preserved-then-is_marked
loop-lower-preserved-then-is_marked c =
    let before = c.loop-lower.invariant in
    let grows = rw c.mark_square-marks.ensures at c.hand_on.ensures in
    let frame = grows_frame grows in
    let lower = rw c.first_square-inclusions.ensures at (c.is_marked.ensures.sound c.if-is_marked.true) in
    ((frame_area frame before.0.0, frame_room frame before.0.1), grows_further before.1 (row_from_above c.requires.x_le_names lower grows))
