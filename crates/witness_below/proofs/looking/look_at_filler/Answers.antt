-- `look_at_filler` meets its contract: one law for each answer.
use mathlib.Core.Path.{refl}
use Rattle.witness_below.specs.Looking.{filler_top}
use Rattle.witness_below.proofs.Looks.{asked_filler, open_filler, marked_filler}
use Rattle.witness_below.proofs.looking.look_at_filler.Goals as goal

pub returns-in_default : goal.returns-in_default
returns-in_default c = filler_top c.in_default.ensures refl refl c.idle.ensures

pub returns-then-kept-eq-UNASKED : goal.returns-then-kept-eq-UNASKED
returns-then-kept-eq-UNASKED c = asked_filler c.in-Some.ensures c.filler-filler.ensures c.cell-kept.ensures c.if-kept-eq-UNASKED.true c.put_cell.ensures c.made.ensures

pub returns-then-kept-eq-OPEN : goal.returns-then-kept-eq-OPEN
returns-then-kept-eq-OPEN c = open_filler c.in-Some.ensures c.filler-filler.ensures c.cell-kept.ensures c.if-kept-eq-OPEN.true c.idle-then-kept-eq-OPEN.ensures

pub returns : goal.returns
returns c = marked_filler c.in-Some.ensures c.filler-filler.ensures c.cell-kept.ensures c.if-kept-eq-UNASKED.false c.if-kept-eq-OPEN.false
    c.put_row.ensures c.put_cell-2.ensures c.made-2.ensures
