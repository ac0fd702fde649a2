-- `rows::read_row` meets its contract: the form by the numbers read, kind by kind.
use mathlib.Core.Path.{refl, ◌∙◌}
use Prim.Native.Nat.{◌*◌, ◌<◌}
use lib.ListN.{get_or}
use Rattle.std.proofs.lemmas.Bool.{ne_eqb}
use native.Mathlib.Omega.{arith}
use Rattle.row_evaluation.proofs.RowForms.{read_as, top_form, name_form, role_form, no_role, no_form}
use Rattle.row_evaluation.proofs.rows.read_row.Goals.{then-one-eq0, else-one-eq0}
use Rattle.row_evaluation.proofs.rows.read_row.Goals as goal

pub returns-after-one-eq0 : goal.returns-after-one-eq0
returns-after-one-eq0 c = read_as _ _ c.in-0.is c.wide-one.ensures.0 c.wide-other.ensures.0 (c.then_some.ensures ∙ elim c.if-one-eq0.branch [
  | then-one-eq0 w ↦ top_form _ _ (λ z. w.then_some-is) (λ n. absurd (n w.if-one-eq0.true))
  | else-one-eq0 w ↦ top_form _ _ (λ z. absurd (w.if-one-eq0.false z)) (λ n. w.then_some-is ∙ ne_eqb _ 0 n)
])

pub returns-in-1 : goal.returns-in-1
returns-in-1 c = read_as _ _ c.in-1.is c.wide-one.ensures.0 c.wide-other.ensures.0 (c.then_some-in-1.ensures ∙ name_form _ _)

pub returns-in-2 : goal.returns-in-2
returns-in-2 c = read_as _ _ c.in-2.is c.wide-one.ensures.0 c.wide-other.ensures.0 refl

pub returns-in_ok-numbered-in-3 : goal.returns-in_ok-numbered-in-3
returns-in_ok-numbered-in-3 c =
    let e = c.in_ok-numbered-in-3.ensures in
    read_as _ _ c.in-3.is c.wide-one.ensures.0 c.wide-other.ensures.0 (role_form _ e.0 (omega (arith, e.0, e.1)))

pub returns-in_err-numbered-in-3 : goal.returns-in_err-numbered-in-3
returns-in_err-numbered-in-3 c = read_as _ _ c.in-3.is c.wide-one.ensures.0 c.wide-other.ensures.0 (c.from_residual.ensures ∙ no_role _ c.in_err-numbered-in-3.ensures)

pub returns-in_default : goal.returns-in_default
returns-in_default c = let far : 3 < get_or c.args.rows.now (3 * c.args.i) 0 = omega arith in read_as _ _ refl c.wide-one.ensures.0 c.wide-other.ensures.0 (no_form _ _ _ far)
