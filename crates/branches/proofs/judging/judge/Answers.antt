-- `judge` meets its contract: by where the first refusal is met.
use Rattle.std.proofs.Common.{arith, sym}
use borrow.Author.Tests.{ltb-true, ltb-false}
use Rattle.branches.specs.declared.refusals.SheetRefusal.TheVariants.{Comparison}
use Rattle.release.proofs.Refusing.{passed}
use Rattle.meanings.specs.declared.refusals.CompareRefusal.TheVariants.{Signature}
use Rattle.branches.proofs.Judged.{many_branches, signatures_accepted, signatures_refused, few_rows, work_short, accepted}
use Rattle.branches.proofs.judging.judge.Goals as goal

pub returns-then-count-gt-BRANCHES : goal.returns-then-count-gt-BRANCHES
returns-then-count-gt-BRANCHES c = many_branches _ _ _ _ _ (omega arith)

pub returns-in_err-signature_fault : goal.returns-in_err-signature_fault
returns-in_err-signature_fault c =
    rw (passed _ (Comparison (Signature c.in_err-signature_fault.field-0.0)) c.from_residual.ensures.1)
    (signatures_refused _ _ _ _ _ (omega arith) _ c.from-names.ensures c.from.ensures c.in_err-signature_fault.ensures)

pub returns-then-row_count-count : goal.returns-then-row_count-count
returns-then-row_count-count c =
    few_rows _ _ _ _ _ (omega arith) (signatures_accepted _ _ c.from-names.ensures c.from.ensures c.in_ok-signature_fault.ensures) (omega arith)

pub returns-then-lacks_work : goal.returns-then-lacks_work
returns-then-lacks_work c =
    work_short _ _ _ _ _ (omega arith) (signatures_accepted _ _ c.from-names.ensures c.from.ensures c.in_ok-signature_fault.ensures) (omega arith)
    (ltb-true _ _ (sym (rw c.from-names.ensures at c.if-lacks_work.ensures)))

pub returns : goal.returns
returns c =
    accepted _ _ _ _ _ (omega arith) (signatures_accepted _ _ c.from-names.ensures c.from.ensures c.in_ok-signature_fault.ensures) (omega arith)
    (ltb-false _ _ (sym (rw c.from-names.ensures at c.if-lacks_work.ensures)))
