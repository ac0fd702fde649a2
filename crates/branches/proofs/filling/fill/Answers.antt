-- `fill` meets its contract: each turn finds one row more in the memory that was prepared.
use Rattle.std.proofs.Common.{◌<◌, arith, ap, ◌∙◌, length}
use Rattle.std.proofs.lemmas.List.{length-set}
use Rattle.branches.specs.Filling.{RowAt}
use Rattle.branches.specs.Shares.{rule_number}
use Rattle.branches.proofs.Rows.{long_small, start_small, part_inside, given_part, row_is, rows_more, rows_filled}
use Rattle.branches.proofs.filling.fill.Goals as goal

pub overflow_add-length : goal.overflow_add-length
overflow_add-length c = omega (arith, long_small c.requires)

pub overflow_mul-start : goal.overflow_mul-start
overflow_mul-start c = omega (arith, start_small c.requires c.loop-branch.branch (omega arith))

pub overflow_add-signature : goal.overflow_add-signature
overflow_add-signature c = omega (arith, long_small c.requires, start_small c.requires c.loop-branch.branch (omega arith))

pub slice_bounds-signature-end : goal.slice_bounds-signature-end
slice_bounds-signature-end c = part_inside c.requires c.loop-branch.branch (omega arith)

pub row_of-requires-clause-given : goal.row_of-requires-clause-given
row_of-requires-clause-given c = given_part c.requires c.loop-branch.branch (omega arith) (omega (arith, c.prepare.ensures.long, ap length c.loop-branch.invariant.2))

pub loop-branch-preserved : goal.loop-branch-preserved
loop-branch-preserved c =
    let inside : c.loop-branch.branch < length c.args.rows.now = omega arith in
    let releases = c.args.releases.now in
    let IsAt = RowAt (rule_number c.args.rounding) releases.first.file.now releases.second.file.now c.args.signatures.now in
    let row = row_is c.requires c.loop-branch.branch inside c.row_of.ensures.row in (
      length-set _ _ _ ∙ c.loop-branch.invariant.0,
      rows_more IsAt c.loop-branch.rows c.loop-branch.branch _ (omega arith) c.loop-branch.invariant.1 row,
      c.row_of.ensures.same ∙ c.loop-branch.invariant.2,
    )

pub returns : goal.returns
returns c =
    rows_filled c.prepare.ensures c.loop-branch.invariant.0 (λ i h. c.loop-branch.invariant.1 i (omega arith)) c.loop-branch.invariant.2 c.work_length.ensures.0 c.clear.ensures
