-- `judge` meets its contract: by where the first refusal is met.
use Rattle.std.proofs.Common.{arith, sym}
use borrow.Author.Tests.{ltb-true, ltb-false}
use Rattle.release.proofs.Refusing.{passed}
use Rattle.meanings.specs.declared.refusals.CompareRefusal.TheVariants.{Signature}
use Rattle.meanings.proofs.Judging.{signature_refused, signature_accepted, result_short, role_result_short, work_short, accepted}
use Rattle.meanings.proofs.judge.Goals as goal

pub returns-in_err-signature_fault : goal.returns-in_err-signature_fault
returns-in_err-signature_fault c =
    rw (passed _ (Signature c.in_err-signature_fault.field-0.0) c.from_residual.ensures.1)
    (signature_refused _ _ _ _ _ _ c.from-names.ensures c.from-roles.ensures c.in_err-signature_fault.ensures)

pub returns-then-result_length-names : goal.returns-then-result_length-names
returns-then-result_length-names c =
    result_short _ _ _ _ _ (signature_accepted _ c.from-names.ensures c.from-roles.ensures c.in_ok-signature_fault.ensures) (omega arith)

pub returns-then-role_result_length-roles : goal.returns-then-role_result_length-roles
returns-then-role_result_length-roles c = role_result_short _ _ _ _ _ (signature_accepted _ c.from-names.ensures c.from-roles.ensures c.in_ok-signature_fault.ensures) (omega arith)
    (rw c.from-roles.ensures at c.if-role_result_length-roles.true)

pub returns-then-lacks_work : goal.returns-then-lacks_work
returns-then-lacks_work c =
    work_short _ _ _ _ _ (signature_accepted _ c.from-names.ensures c.from-roles.ensures c.in_ok-signature_fault.ensures) (omega arith)
    (rw c.from-roles.ensures at c.if-role_result_length-roles.false)
    (ltb-true _ _ (sym (rw c.from-names.ensures at c.if-lacks_work.ensures)))

pub returns : goal.returns
returns c =
    accepted _ _ _ _ _ (signature_accepted _ c.from-names.ensures c.from-roles.ensures c.in_ok-signature_fault.ensures) (omega arith)
    (rw c.from-roles.ensures at c.if-role_result_length-roles.false)
    (ltb-false _ _ (sym (rw c.from-names.ensures at c.if-lacks_work.ensures)))
