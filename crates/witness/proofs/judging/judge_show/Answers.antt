-- `judge_show` meets its contract: by where the first refusal is met.
use Rattle.std.proofs.Common.{arith, sym}
use borrow.Author.Tests.{ltb-true, ltb-false}
use Rattle.release.proofs.Refusing.{passed}
use Rattle.meanings.specs.declared.refusals.CompareRefusal.TheVariants.{Signature}
use Rattle.meanings.proofs.Judging.{signature_accepted}
use Rattle.witness.specs.declared.refusals.ShowRefusal.TheVariants.{Comparison}
use Rattle.witness.proofs.Judgements.{show_signature, show_work, show_rows, show_accepted}
use Rattle.witness.proofs.judging.judge_show.Goals as goal

pub returns-in_err-signature_fault : goal.returns-in_err-signature_fault
returns-in_err-signature_fault c =
    rw (passed _ (Comparison (Signature c.in_err-signature_fault.field-0.0)) c.from_residual.ensures.1)
    (show_signature _ _ _ _ _ c.from-names.ensures c.from.ensures c.in_err-signature_fault.ensures)

pub returns-then-lacks_work : goal.returns-then-lacks_work
returns-then-lacks_work c =
    show_work _ _ _ _ (signature_accepted _ c.from-names.ensures c.from.ensures c.in_ok-signature_fault.ensures)
    (ltb-true _ _ (sym (rw c.from-names.ensures at c.if-lacks_work.ensures)))

pub returns-then-row_count-rows_needed : goal.returns-then-row_count-rows_needed
returns-then-row_count-rows_needed c =
    show_rows _ _ _ _ (signature_accepted _ c.from-names.ensures c.from.ensures c.in_ok-signature_fault.ensures)
    (ltb-false _ _ (sym (rw c.from-names.ensures at c.if-lacks_work.ensures)))
    (omega (arith, rw c.from-names.ensures at c.rows_needed.ensures.0))

pub returns : goal.returns
returns c =
    show_accepted _ _ _ _ (signature_accepted _ c.from-names.ensures c.from.ensures c.in_ok-signature_fault.ensures)
    (ltb-false _ _ (sym (rw c.from-names.ensures at c.if-lacks_work.ensures)))
    (omega (arith, rw c.from-names.ensures at c.rows_needed.ensures.0))
