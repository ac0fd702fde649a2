-- `write_arranged` meets its contract: the passes, and the row of the name, once more if it is not the last.
use native.Mathlib.Omega.{arith}
use Rattle.witness_below.proofs.Whole.{start_state, last_room, whole_none, whole_last, whole_again}
use Rattle.witness_below.proofs.write_arranged.Goals as goal

pub close-written-requires : goal.close-written-requires
close-written-requires c = (start_state c.requires.to_write c.put_cell.ensures, c.requires.to_write.name, c.requires.noting)

pub returns-in_default : goal.returns-in_default
returns-in_default c = whole_none c.requires.to_write c.put_cell.ensures c.close-written.ensures.0 c.cell.ensures c.in_default.ensures

pub returns-then-row-written : goal.returns-then-row-written
returns-then-row-written c =
    whole_last c.requires.to_write c.put_cell.ensures c.close-written.ensures.0 c.cell.ensures c.in-Some.row (omega (arith, c.in-Some.ensures.0, c.in-Some.ensures.1)) c.if-row-written.true

pub put_row-requires : goal.put_row-requires
put_row-requires c =
    record {
      inside = last_room c.requires.to_write c.put_cell.ensures c.close-written.ensures.0;
      narrow = (omega (arith, c.in-Some.ensures.1, c.cell.ensures.small), omega (arith, c.in-Some.ensures.1, c.cell.ensures.small));
    }

pub returns : goal.returns
returns c = whole_again c.requires.to_write c.put_cell.ensures c.close-written.ensures.0 c.cell.ensures c.in-Some.row (omega (arith, c.in-Some.ensures.0, c.in-Some.ensures.1)) c.put_row.ensures
