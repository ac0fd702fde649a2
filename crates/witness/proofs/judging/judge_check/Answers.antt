-- `judge_check` meets its contract: by where the first refusal is met.
use Rattle.std.proofs.Common.{sym}
use borrow.Author.Tests.{ltb-true, ltb-false}
use Rattle.release.proofs.Refusing.{passed}
use Rattle.meanings.specs.declared.refusals.CompareRefusal.TheVariants.{Signature}
use Rattle.meanings.proofs.Judging.{signature_accepted}
use Rattle.witness.proofs.Judgements.{check_signature, check_work, check_accepted}
use Rattle.witness.proofs.judging.judge_check.Goals as goal

pub returns-in_err-signature_fault : goal.returns-in_err-signature_fault
returns-in_err-signature_fault c =
    rw (passed _ (Signature c.in_err-signature_fault.field-0.0) c.from_residual.ensures.1)
    (check_signature _ _ _ _ _ c.from-names.ensures c.from.ensures c.in_err-signature_fault.ensures)

pub returns-then-lacks_check_work : goal.returns-then-lacks_check_work
returns-then-lacks_check_work c =
    check_work _ _ _ _ (signature_accepted _ c.from-names.ensures c.from.ensures c.in_ok-signature_fault.ensures)
    (ltb-true _ _ (sym (rw c.from-names.ensures at c.if-lacks_check_work.ensures)))

pub returns : goal.returns
returns c =
    check_accepted _ _ _ _ (signature_accepted _ c.from-names.ensures c.from.ensures c.in_ok-signature_fault.ensures)
    (ltb-false _ _ (sym (rw c.from-names.ensures at c.if-lacks_check_work.ensures)))
