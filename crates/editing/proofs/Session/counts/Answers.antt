-- Each end of the test is one of the definition's cases.
use native.Mathlib.Omega.{arith}
use Rattle.editing.proofs.Sessions.{first_not, few, second_not, counts_differ, signature_not, session_yes}
use Rattle.editing.proofs.Session.counts.Goals as goal

pub returns-in_err-first : goal.returns-in_err-first
returns-in_err-first c = rw c.from_residual.ensures (first_not _ c.in_err-first.ensures)

pub returns-in_err-second : goal.returns-in_err-second
returns-in_err-second c = rw c.from_residual-in_err-second.ensures (second_not _ c.in_ok-first.ensures c.in_err-second.ensures)

pub returns-then-first-second : goal.returns-then-first-second
returns-then-first-second c = counts_differ _ c.in_ok-first.ensures c.in_ok-second.ensures c.then-first-second.either

pub overflow_add-signature : goal.overflow_add-signature
overflow_add-signature c = let few = few c.args.self.now c.in_ok-first.ensures in omega (arith, few.0, few.1)

pub shared_ref_as_front-signature : goal.shared_ref_as_front-signature
shared_ref_as_front-signature c = let few = few c.args.self.now c.in_ok-first.ensures in omega (arith, few.0, few.1)

pub returns-in-Ok : goal.returns-in-Ok
returns-in-Ok c = session_yes _ c.in_ok-first.ensures c.in_ok-second.ensures c.if-first-second.false c.if-first-second-2.false c.in-Ok.ensures

pub returns-in-Err : goal.returns-in-Err
returns-in-Err c = signature_not _ c.in_ok-first.ensures c.in_ok-second.ensures c.if-first-second.false c.if-first-second-2.false _ c.in-Err.ensures
