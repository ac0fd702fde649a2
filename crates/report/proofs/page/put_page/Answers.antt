-- `put_page` meets its contract. The invariant: what the names from the one reached on take is still to be put.
use Rattle.std.proofs.Common.{arith, sym}
use Rattle.output.proofs.Puts.{put_as, put_then}
use Rattle.output.proofs.Rest.{piece_put, last_put}
use Rattle.report.proofs.PageWriting.{left_none, begins_cell, page_begun, passed_over}
use Rattle.report.proofs.page.put_page.Goals as goal

pub loop-name-init : goal.loop-name-init
loop-name-init c = record { few = omega arith; rest = page_begun c.args.result_bytes.now (omega arith) }

pub loop-name-preserved-in_default : goal.loop-name-preserved-in_default
loop-name-preserved-in_default c = record {
  few = omega (arith, c.loop-name.invariant.few);
  rest = passed_over c.args.result_bytes.now c.loop-name.cells c.loop-name.name (omega arith) c.in_default.ensures c.loop-name.invariant.rest;
}

pub overflow_add-cells : goal.overflow_add-cells
overflow_add-cells c = omega (arith, c.loop-name.invariant.few)

pub loop-name-preserved : goal.loop-name-preserved
loop-name-preserved c = record {
  few = omega (arith, c.loop-name.invariant.few);
  rest = piece_put (begins_cell c.loop-name.cells c.loop-name.name c.args.result_bytes.now c.in-Some.side (omega arith) c.in-Some.ensures) c.loop-name.invariant.rest
      (put_then c.put_cell-next.ensures c.put_after_cell-next.ensures);
}

pub returns : goal.returns
returns c = last_put c.loop-name.invariant.rest (put_as (sym (left_none c.loop-name.cells c.loop-name.name c.args.result_bytes.now (omega arith))) c.put_rest.ensures)
