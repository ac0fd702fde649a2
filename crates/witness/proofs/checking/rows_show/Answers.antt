-- `rows_show` meets its contract: each of its answers is that of one law.
use Rattle.witness.proofs.CheckedRows.{not_asked, no_row, ill_formed, to_decide, decides}
use Rattle.witness.proofs.checking.rows_show.Goals as goal

pub lend-lent-requires : goal.lend-lent-requires
lend-lent-requires c = c.requires.check.given.signature

pub returns-in_default : goal.returns-in_default
returns-in_default c = not_asked c.lend-lent.ensures c.in_default.ensures

pub returns-in_default-checked_sub : goal.returns-in_default-checked_sub
returns-in_default-checked_sub c = no_row c.row_count-count.ensures.0 c.in_default-checked_sub.ensures

pub returns-then-not-all_rows : goal.returns-then-not-all_rows
returns-then-not-all_rows c = ill_formed c.lend-lent.ensures c.row_count-count.ensures.0 c.all_rows.ensures c.if-not-all_rows.true

pub decide-requires : goal.decide-requires
decide-requires c =
    to_decide c.requires c.lend-lent.ensures c.in-Some.ensures c.row_count-count.ensures.0 c.in-Some-checked_sub.ensures
    (c.all_rows.ensures.sound c.if-not-all_rows.false)

pub returns : goal.returns
returns c =
    decides c.requires c.lend-lent.ensures c.in-Some.ensures c.row_count-count.ensures.0 c.in-Some-checked_sub.ensures
    (c.all_rows.ensures.sound c.if-not-all_rows.false) c.decide.ensures
