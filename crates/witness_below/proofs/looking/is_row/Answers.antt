-- `looking::is_row` meets its contract: the form read is that of ⊤, or of the name.
use mathlib.Core.Path.{sym, ap, ◌∙◌}
use Prim.Native.Nat.{ℕ}
use borrow.Author.Tests.{eqb-true}
use Rattle.concept_rows.specs.Rows.{row}
use Rattle.row_evaluation.specs.RowForms.{numbers_of}
use Rattle.row_evaluation.proofs.RowForms.{form_row}
use Rattle.witness_below.proofs.looking.is_row.Goals as goal

pub returns-in-Top-Top : goal.returns-in-Top-Top
returns-in-Top-Top c = λ yes. form_row _ (sym c.in-Some.ensures) ∙ ap numbers_of (c.in-Top-Top.is-0 ∙ sym c.in-Top-Top.is-1)

pub returns-in-Name-Name : goal.returns-in-Name-Name
returns-in-Name-Name c = λ yes. form_row _ (sym c.in-Some.ensures) ∙ ap numbers_of c.in-Name-Name.is-0
    ∙ (ap (λ (b : ℕ). row 1 b 0) (eqb-true _ _ yes) ∙ sym (ap numbers_of c.in-Name-Name.is-1))
