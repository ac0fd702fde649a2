-- Each column looked at so far is in the line or marked; nothing has changed.
use native.Mathlib.Omega.{arith}
use mathlib.Core.Path.{refl, ◌∙◌}
use Rattle.marks.proofs.Passes.{pass_none, pass_still}
use Rattle.marks.proofs.Squares.{frame_room, refuted}
use Rattle.marks.proofs.Lines.{filled_none, filled_has, filled_there, filled_end, missing_pass}
use Rattle.marks.proofs.Square.absorb_missing.Goals as goal

pub returns-then-seems_full : goal.returns-then-seems_full
returns-then-seems_full c = pass_none (c.seems_full.ensures c.if-seems_full.true)

pub loop-y-init : goal.loop-y-init
loop-y-init c = (refl, filled_none)

pub has-requires : goal.has-requires
has-requires c = record { inside = omega (arith, c.loop-y-test.true, c.requires.spans.inside) }

pub loop-y-preserved-then-has : goal.loop-y-preserved-then-has
loop-y-preserved-then-has c = (c.loop-y.invariant.0, filled_has (c.has.ensures.sound c.if-has.true) c.loop-y.invariant.1)

pub mark-requires : goal.mark-requires
mark-requires c = record { room = rw c.loop-y.invariant.0 c.requires.room; x_le_names = (c.requires.x_le_names, c.loop-y-test.true) }

pub mark_missing-requires : goal.mark_missing-requires
mark_missing-requires c = record {
  room = frame_room c.mark.ensures.extends.frame (rw c.loop-y.invariant.0 c.requires.room);
  x_le_names = c.requires.x_le_names;
  spans = c.requires.spans;
}

pub returns-then-mark : goal.returns-then-mark
returns-then-mark c = rw (← c.loop-y.invariant.0) (missing_pass c.mark.ensures c.if-mark.true (refuted c.has.ensures c.if-has.false) c.mark_missing.ensures)

pub loop-y-preserved : goal.loop-y-preserved
loop-y-preserved c = (c.mark.ensures.same c.if-mark.false ∙ c.loop-y.invariant.0, filled_there c.mark.ensures.there (rw (c.mark.ensures.same c.if-mark.false) c.loop-y.invariant.1))

pub returns-then-has : goal.returns-then-has
returns-then-has c = pass_still c.loop-y.invariant.0 (filled_end (omega arith) (filled_has (c.has.ensures.sound c.if-has.true) c.loop-y.invariant.1))

pub returns-else-mark : goal.returns-else-mark
returns-else-mark c = pass_still (c.mark.ensures.same c.if-mark.false ∙ c.loop-y.invariant.0)
    (filled_end (omega arith) (filled_there c.mark.ensures.there (rw (c.mark.ensures.same c.if-mark.false) c.loop-y.invariant.1)))
