-- The names noted, one after the other: each is tested, so that what lies below one that serves has a partner.
use native.Mathlib.Omega.{arith}
use Rattle.marks.proofs.Lines.{walk_on}
use Rattle.forward.proofs.Tested.{join_asks, joined_below, partnered_more}
use Rattle.forward.proofs.kept.keep_by_role.Goals as goal

pub join-requires : goal.join-requires
join-requires c =
    let name = rw c.mark_square-marks.ensures at c.if-name-marks.true in
    let asked = join_asks c.below-below.ensures c.requires.room.1 name (record { inside = omega (arith, c.requires.spans.inside, c.loop-name.auto.kept) }) in
    record { room = asked.0; x_le_names = asked.1.0; spans = asked.1.1 }

pub loop-name-preserved-then-serves : goal.loop-name-preserved-then-serves
loop-name-preserved-then-serves c =
    let name = rw c.mark_square-marks.ensures at c.if-name-marks.true in
    let serves = rw c.mark_square-marks.ensures at (c.serves.ensures.sound c.if-serves.true) in
    (walk_on c.loop-name.invariant.0 c.in-Some.ensures.steps, partnered_more serves name (joined_below c.below-below.ensures c.requires.room.1 name c.join.ensures) c.loop-name.invariant.1)
