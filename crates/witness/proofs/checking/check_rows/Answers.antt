-- `check_rows` meets its contract: what is needed is set to 0 before and after.
use native.Mathlib.Omega.{arith}
use Rattle.witness.proofs.CheckedRows.{need_room, to_check_cleared, again_room, rows_checked}
use Rattle.witness.proofs.checking.check_rows.Goals as goal

pub overflow_mul-need-2 : goal.overflow_mul-need-2
overflow_mul-need-2 c = omega (arith, need_room c.requires c.work_length.ensures.0 c.row_count-count.ensures.0)

pub overflow_add-need-2 : goal.overflow_add-need-2
overflow_add-need-2 c = omega (arith, need_room c.requires c.work_length.ensures.0 c.row_count-count.ensures.0)

pub clear-requires : goal.clear-requires
clear-requires c = need_room c.requires c.work_length.ensures.0 c.row_count-count.ensures.0

pub rows_show-yes-requires : goal.rows_show-yes-requires
rows_show-yes-requires c = to_check_cleared c.requires c.work_length.ensures.0 c.row_count-count.ensures.0 c.clear.ensures

pub clear-requires-2 : goal.clear-requires-2
clear-requires-2 c = again_room c.requires c.work_length.ensures.0 c.row_count-count.ensures.0 c.clear.ensures c.rows_show-yes.ensures

pub returns : goal.returns
returns c = rows_checked c.requires c.work_length.ensures.0 c.row_count-count.ensures.0 c.clear.ensures c.rows_show-yes.ensures c.clear-2.ensures
