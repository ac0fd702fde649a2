-- The marks are put by the rules.
use Rattle.marks.specs.Passes.{none}
use Rattle.marks.proofs.Passes.{grows_further}
use Rattle.classification.proofs.Marking.{restriction_stays, filler_small, over_of}
use borrow.Author.Rules.{rules}
use Rattle.marks.proofs.Lines.{column_few, walk_on}
use Rattle.classification.proofs.Classification.put_filled.Goals as goal

pub loop-y-init : goal.loop-y-init
loop-y-init c = (search rules, none)

pub is_marked-requires : goal.is_marked-requires
is_marked-requires c =
    let h = restriction_stays c.loop-y.invariant.1 c.requires in
    record { room = h.setting.room; x_le_names = (filler_small h, (column_few c.loop-y.invariant.0 c.in-Some.ensures.steps)) }

pub put_over-requires : goal.put_over-requires
put_over-requires c = over_of (restriction_stays c.loop-y.invariant.1 c.requires) (c.is_marked.ensures.sound c.if-is_marked.true) (column_few c.loop-y.invariant.0 c.in-Some.ensures.steps)

pub loop-y-preserved-then-is_marked : goal.loop-y-preserved-then-is_marked
loop-y-preserved-then-is_marked c = (walk_on c.loop-y.invariant.0 c.in-Some.ensures.steps, grows_further c.loop-y.invariant.1 c.put_over.ensures)

pub loop-y-preserved : goal.loop-y-preserved
loop-y-preserved c = (walk_on c.loop-y.invariant.0 c.in-Some.ensures.steps, c.loop-y.invariant.1)

pub returns : goal.returns
returns c = c.loop-y.invariant.1
