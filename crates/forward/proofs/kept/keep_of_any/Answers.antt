-- All names, one after the other. Invariant: the line has just what the names before this one keep.
use native.Mathlib.Omega.{arith}
use Rattle.forward.proofs.Tested.{second_small, join_asks, joined_below, kept_more}
use Rattle.forward.proofs.kept.keep_of_any.Goals as goal

pub below-below-requires : goal.below-below-requires
below-below-requires c = second_small c.requires.room.1

pub join-requires : goal.join-requires
join-requires c =
    let name = rw c.mark_square-marks.ensures at c.loop-name-test.true in
    let asked = join_asks c.below-below.ensures c.requires.room.1 name (record { inside = omega (arith, c.requires.spans.0.inside, c.loop-name.auto.kept) }) in
    record { room = asked.0; x_le_names = asked.1.0; spans = asked.1.1 }

pub loop-name-preserved : goal.loop-name-preserved
loop-name-preserved c =
    let name = rw c.mark_square-marks.ensures at c.loop-name-test.true in
    let serves = rw c.mark_square-marks.ensures at (c.serves.ensures.sound c.if-not-serves.false) in
    kept_more serves (joined_below c.below-below.ensures c.requires.room.1 name c.join.ensures) c.loop-name.invariant
