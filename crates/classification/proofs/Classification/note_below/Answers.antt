-- Only hints change.
use native.Mathlib.Omega.{arith}
use Rattle.marks.proofs.Squares.{kept_same, kept_further, frame_area}
use borrow.Author.Rules.{rules}
use Rattle.marks.proofs.Lines.{column_few, walk_on}
use Rattle.classification.proofs.Classification.note_below.Goals as goal

pub loop-y-init : goal.loop-y-init
loop-y-init c = (search rules, kept_same)

pub put_hint-requires : goal.put_hint-requires
put_hint-requires c = record {
  area = frame_area c.loop-y.invariant.1.extends.frame c.requires.area.0;
  le_k = (omega arith, omega arith, (column_few c.loop-y.invariant.0 c.in-Some.ensures.steps), c.requires.x_le_names);
}

pub loop-y-preserved : goal.loop-y-preserved
loop-y-preserved c = (walk_on c.loop-y.invariant.0 c.in-Some.ensures.steps, kept_further c.loop-y.invariant.1 c.put_hint.ensures)

pub returns : goal.returns
returns c = c.loop-y.invariant.1
