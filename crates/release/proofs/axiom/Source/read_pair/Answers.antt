-- A pair's two roles are read, then it is compared with the least that may stand there.
use Rattle.release.proofs.RolePairs.{lower_refused, upper_refused, pair_refused, pair_read}
use Rattle.release.proofs.Refusing.{passed}
use Rattle.release.proofs.axiom.Source.read_pair.Goals as goal

pub returns-in_err-lower : goal.returns-in_err-lower
returns-in_err-lower c = rw (passed _ c.in_err-lower.field-0.0 c.from_residual.ensures.1) (lower_refused _ _ _ _ c.in_err-lower.ensures)

pub returns-in_err-upper : goal.returns-in_err-upper
returns-in_err-upper c = rw (passed _ c.in_err-upper.field-0.0 c.from_residual-in_err-upper.ensures.1) (upper_refused _ _ _ _ c.in_ok-lower.ensures c.in_err-upper.ensures)

pub returns-then-precedes : goal.returns-then-precedes
returns-then-precedes c = pair_refused _ _ _ _ c.in_ok-lower.ensures c.in_ok-upper.ensures _ c.precedes.ensures c.if-precedes.true

pub returns : goal.returns
returns c = pair_read _ _ _ _ c.in_ok-lower.ensures c.in_ok-upper.ensures _ c.precedes.ensures c.if-precedes.false
