-- Each refusal is the first of its conditions that holds; the comparison at the end tells the last one.
use mathlib.Core.Path.{refl}
use Rattle.release.proofs.Refusing.{passed}
use Rattle.meanings.specs.declared.refusals.CompareRefusal.TheVariants.{Signature}
use Rattle.editing.specs.declared.refusals.EditRefusal.TheVariants.{Comparison}
use Rattle.editing.proofs.Beginning.{limited, open_refused, open_signature, fits, open_comparable, open_short, open_done}
use Rattle.editing.proofs.Session.open.Goals as goal

pub agree-requires : goal.agree-requires
agree-requires c = limited _ _ c.check_as_1.ensures

pub returns-in_err-counts : goal.returns-in_err-counts
returns-in_err-counts c =
    rw (passed _ (Comparison c.in_err-counts.field-0.0) c.from_residual.ensures.1)
    (open_refused _ _ _ _ _ _ (rw (c.check_as_1.ensures, c.check_as_1-2.ensures) at c.in_err-counts.ensures))

pub returns-in_err-signature_fault : goal.returns-in_err-signature_fault
returns-in_err-signature_fault c =
    rw (passed _ (Comparison (Signature c.in_err-signature_fault.field-0.0)) c.from_residual-in_err-signature_fault.ensures.1)
    (open_signature _ _ _ (rw (c.check_as_1.ensures, c.check_as_1-2.ensures) at c.in_ok-counts.ensures) c.from.ensures c.from-2.ensures _ _ _ c.in_err-signature_fault.ensures)

pub of-requires : goal.of-requires
of-requires c = fits _ _ _ (rw (c.check_as_1.ensures, c.check_as_1-2.ensures) at c.in_ok-counts.ensures) c.from.ensures c.from-2.ensures c.in_ok-signature_fault.ensures

pub compare-requires : goal.compare-requires
compare-requires c =
    open_comparable _ _ _ (rw (c.check_as_1.ensures, c.check_as_1-2.ensures) at c.in_ok-counts.ensures) c.from.ensures c.from-2.ensures c.in_ok-signature_fault.ensures c.of.ensures

pub returns-in_err-counts-2 : goal.returns-in_err-counts-2
returns-in_err-counts-2 c =
    rw (passed _ (Comparison c.in_err-counts-2.field-0.0) c.from_residual-in_err-counts-2.ensures.1)
    (open_short _ _ _ (rw (c.check_as_1.ensures, c.check_as_1-2.ensures) at c.in_ok-counts.ensures) c.from.ensures c.from-2.ensures c.in_ok-signature_fault.ensures c.of.ensures
    c.in_err-counts-2.ensures refl)

pub returns : goal.returns
returns c =
    open_done _ _ _ (rw (c.check_as_1.ensures, c.check_as_1-2.ensures) at c.in_ok-counts.ensures) c.from.ensures c.from-2.ensures c.in_ok-signature_fault.ensures c.of.ensures
    c.in_ok-counts-2.ensures refl
