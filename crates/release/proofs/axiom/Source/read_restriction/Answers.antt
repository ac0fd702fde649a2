-- The tests of a role and a filler, in the order of the definition: each return is one of its cases.
use mathlib.Core.Path.{ap, ◌∙◌, sym}
use mathlib.Core.Logic.{inl, inr}
use native.Mathlib.Omega.{arith}
use Rattle.release.specs.declared.RoleIndex.{RoleIndex}
use Rattle.release.proofs.Faults.{restriction_short, restriction_9, restriction_none, is_filler_lem, no_filler}
use Rattle.release.proofs.Readings.{role_read, restriction_refused, restriction_of_role, restriction_read}
use Rattle.release.proofs.Refusing.{accepts, passed}
use Rattle.release.proofs.axiom.Source.read_restriction.Goals as goal
use Rattle.release.proofs.axiom.Source.read_restriction.Goals.{else-self-filler-via-then-self-filler+else-filler-top, else-self-filler-via-else-self-filler}

pub returns-in_err-role : goal.returns-in_err-role
returns-in_err-role c = rw (passed _ c.in_err-role.field-0.0 c.from_residual.ensures.1) (restriction_of_role _ _ _ _ _ _ _ c.requires.kind c.in_err-role.ensures)

pub returns-then-self-next : goal.returns-then-self-next
returns-then-self-next c = restriction_refused _ _ _ _ _ _ _ c.requires.kind 7 (omega arith)
    (restriction_short _ _ _ _ _ (role_read _ _ _ c.in_ok-role.ensures).0 (omega (arith, c.width.ensures)))

pub returns-then-filler-top : goal.returns-then-filler-top
returns-then-filler-top c = restriction_refused _ _ _ _ _ _ _ c.requires.kind 9 (omega arith)
    (restriction_9 _ _ _ _ _ (role_read _ _ _ c.in_ok-role.ensures).0 (omega (arith, c.width.ensures)) _ c.number-filler.ensures
    (no_filler _ _ _ c.if-self-filler.true (λ e. c.if-filler-top.true (e ∙ sym c.top.ensures))))

pub returns : goal.returns
returns c =
    let role = role_read _ _ _ c.in_ok-role.ensures in
    let f = is_filler_lem _ c.args.self.now.counts.names c.number-filler.result
    (elim c.else-self-filler.branch [
      | else-self-filler-via-then-self-filler+else-filler-top w ↦ inr (w.if-filler-top.false ∙ w.top.ensures)
      | else-self-filler-via-else-self-filler w ↦ inl w.if-self-filler.false
    ]) in
    rw c.width.ensures
    (accepts 1 _ _ (restriction_none _ _ _ _ _ role.0 (omega (arith, c.width.ensures)) _ c.number-filler.ensures f) ∙
    restriction_read _ _ _ _ _ _ _ c.requires.kind _ _ _ (ap (λ (r : RoleIndex). r.0) role.1) c.number-filler.ensures c.filler_node.ensures)
