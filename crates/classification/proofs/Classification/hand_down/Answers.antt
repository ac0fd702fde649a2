-- Row x was handed on to rows that it is marked in.
use native.Mathlib.Omega.{arith}
use Rattle.marks.specs.Passes.{none}
use Rattle.marks.proofs.Squares.{frame_area}
use Rattle.marks.proofs.Passes.{grows_further, grows_frame, room_stays}
use Rattle.classification.proofs.Marking.{handed_down}
use Rattle.classification.proofs.Classification.hand_down.Goals as goal

pub loop-lower-init : goal.loop-lower-init
loop-lower-init c = none

pub next_hint-requires : goal.next_hint-requires
next_hint-requires c = record { area = frame_area (grows_frame c.loop-lower.invariant) c.requires.area; k_bound = (omega arith, c.requires.x_le_names) }

pub is_marked-requires : goal.is_marked-requires
is_marked-requires c = record { room = room_stays c.loop-lower.invariant c.requires.area.room; x_le_names = (c.in-Some.ensures.1, c.requires.x_le_names) }

pub hand_over-requires : goal.hand_over-requires
hand_over-requires c = record { room = room_stays c.loop-lower.invariant c.requires.area.room; c_le_names = (c.requires.x_le_names, c.in-Some.ensures.1) }

pub loop-lower-preserved-then-is_marked : goal.loop-lower-preserved-then-is_marked
loop-lower-preserved-then-is_marked c = grows_further c.loop-lower.invariant (handed_down (c.is_marked.ensures.sound c.if-is_marked.true) c.requires.x_le_names c.hand_over.ensures)

pub loop-lower-preserved : goal.loop-lower-preserved
loop-lower-preserved c = c.loop-lower.invariant

pub returns : goal.returns
returns c = c.loop-lower.invariant
