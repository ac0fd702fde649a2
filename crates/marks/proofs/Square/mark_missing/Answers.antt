-- The first i bytes of the row have what the line has not.
use mathlib.Core.Path.{refl}
use native.Mathlib.Omega.{arith}
use Rattle.marks.specs.Passes.{none}
use Rattle.marks.proofs.Squares.{row_bytes, row_ends}
use Rattle.marks.proofs.Lines.{missing_further}
use Rattle.marks.proofs.Square.mark_missing.Goals as goal

pub loop-i-init : goal.loop-i-init
loop-i-init c = (none, row_ends _ c.requires.room refl c.requires.x_le_names c.place-target.ensures)

pub bounds-line-i : goal.bounds-line-i
bounds-line-i c = omega (arith, row_bytes _ c.width-i-end.ensures.0, c.loop-i-test.true, c.requires.spans.inside)

pub loop-i-preserved : goal.loop-i-preserved
loop-i-preserved c = (
  missing_further c.loop-i.i c.loop-i.invariant.0 c.requires.room c.requires.x_le_names
      (omega (arith, row_bytes _ c.width-i-end.ensures.0, c.loop-i-test.true)) c.place-target.ensures.is,
  c.loop-i.invariant.1,
)

pub returns : goal.returns
returns c = c.loop-i.invariant.0
