-- The marks are put by the rules.
use Rattle.marks.specs.Passes.{none}
use Rattle.marks.proofs.Passes.{grows_further}
use Rattle.classification.proofs.Marking.{setting_stays}
use borrow.Author.Rules.{rules}
use Rattle.marks.proofs.Lines.{column_few, walk_on}
use Rattle.classification.proofs.Classification.put_above.Goals as goal

pub loop-y-init : goal.loop-y-init
loop-y-init c = (search rules, none)

pub is_marked-requires : goal.is_marked-requires
is_marked-requires c = record { room = (setting_stays c.loop-y.invariant.1 c.requires.setting).room; x_le_names = (c.requires.x_le_names, (column_few c.loop-y.invariant.0 c.in-Some.ensures.steps)) }

pub put_beside-requires : goal.put_beside-requires
put_beside-requires c = record {
  setting = setting_stays c.loop-y.invariant.1 c.requires.setting;
  row = c.requires.x_le_names;
  column = (column_few c.loop-y.invariant.0 c.in-Some.ensures.steps);
  marked = c.is_marked.ensures.sound c.if-is_marked.true;
}

pub loop-y-preserved-then-is_marked : goal.loop-y-preserved-then-is_marked
loop-y-preserved-then-is_marked c = (walk_on c.loop-y.invariant.0 c.in-Some.ensures.steps, grows_further c.loop-y.invariant.1 c.put_beside.ensures)

pub loop-y-preserved : goal.loop-y-preserved
loop-y-preserved c = (walk_on c.loop-y.invariant.0 c.in-Some.ensures.steps, c.loop-y.invariant.1)

pub returns : goal.returns
returns c = c.loop-y.invariant.1
