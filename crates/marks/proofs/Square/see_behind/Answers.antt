-- Only hints were put behind the square, and not more bytes are counted than were looked at.
use native.Mathlib.Omega.{arith}
use mathlib.Core.Path.{refl}
use Rattle.marks.proofs.Squares.{row_bytes, row_ends, hints_none, hints_more}
use Rattle.marks.proofs.Square.see_behind.Goals as goal

pub place-source-requires : goal.place-source-requires
place-source-requires c = record { small = c.requires.room.0.small; x_le_names = (omega (arith, c.requires.names_value), omega arith) }

pub place-target-requires : goal.place-target-requires
place-target-requires c = record { small = c.requires.room.1.small; x_le_names = (omega (arith, c.requires.names_value), omega arith) }

pub loop-i-init : goal.loop-i-init
loop-i-init c = (
  hints_none,
  omega arith,
  row_ends _ c.requires.room.0 refl c.requires.names_value.1 c.place-source.ensures,
  row_ends _ c.requires.room.1 c.requires.names_value.0 c.requires.names_value.1 c.place-target.ensures,
)

pub bounds-line-i : goal.bounds-line-i
bounds-line-i c = omega (arith, row_bytes _ c.width-i-end.ensures.0, c.loop-i-test.true, c.requires.names_value.2)

pub overflow_add-count : goal.overflow_add-count
overflow_add-count c = omega (arith, c.loop-i.invariant.1, row_bytes _ c.width-i-end.ensures.0, c.loop-i-test.true, c.requires.names_value)

pub loop-i-preserved : goal.loop-i-preserved
loop-i-preserved c = (
  hints_more _ c.requires.room.1 (omega (arith, c.requires.names_value))
      (omega (arith, c.requires.names_value, row_bytes _ c.width-i-end.ensures.0, c.loop-i-test.true)) c.place-target.ensures c.loop-i.invariant.0,
  omega (arith, c.loop-i.invariant.1),
  c.loop-i.invariant.2,
  c.loop-i.invariant.3,
)

pub returns : goal.returns
returns c = (c.loop-i.invariant.0, omega (arith, c.from.ensures, c.loop-i.invariant.1, c.loop-i.auto.i-end, row_bytes _ c.width-i-end.ensures.0, c.requires.names_value.2))
