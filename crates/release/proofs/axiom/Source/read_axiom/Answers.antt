-- The tests before the tail, in the order of the definition; then the kind says which tail is read.
use mathlib.Core.Path.{refl, ◌∙◌}
use mathlib.Core.Logic.{inl, inr}
use Rattle.release.proofs.Readings.{axiom_7, axiom_9, axiom_10, axiom_short, axiom_8, axiom_as_tail}
use Rattle.release.proofs.Refusing.{passed}
use Rattle.release.proofs.axiom.Source.read_axiom.Goals as goal

pub returns-then-self-after : goal.returns-then-self-after
returns-then-self-after c = axiom_7 _ _ _ _ _ _ (rw c.width.ensures at c.if-self-after.true)

pub returns-then-self-left : goal.returns-then-self-left
returns-then-self-left c = axiom_9 _ _ _ _ _ _ (rw c.width.ensures at c.if-self-after.false) _ c.number-left.ensures c.if-self-left.true

pub returns-then-left-least : goal.returns-then-left-least
returns-then-left-least c = axiom_10 _ _ _ _ _ _ (rw c.width.ensures at c.if-self-after.false) _ c.number-left.ensures c.if-self-left.false c.if-left-least.true

pub returns-then-self-after-2 : goal.returns-then-self-after-2
returns-then-self-after-2 c = axiom_short _ _ _ _ _ _ (rw c.width.ensures at c.if-self-after.false) _ c.number-left.ensures c.if-self-left.false c.if-left-least.false
    (rw c.width.ensures at c.if-self-after-2.true)

pub returns-in_err-kind : goal.returns-in_err-kind
returns-in_err-kind c = rw (passed _ c.in_err-kind.field-0.0 c.from_residual.ensures.1, c.in_err-kind.ensures.0, ← c.width.ensures)
    (axiom_8 _ _ _ _ _ _ c.if-self-after.false _ (rw (← c.width.ensures) at c.number-left.ensures) c.if-self-left.false c.if-left-least.false c.if-self-after-2.false
    c.in_err-kind.ensures.1.0 c.in_err-kind.ensures.1.1)

pub read_restriction-requires-clause-kind : goal.read_restriction-requires-clause-kind
read_restriction-requires-clause-kind c = elim c.in-PrimitiveRestriction.is [ inl e ↦ rw e refl | inr e ↦ rw e refl ]

pub read_conjunction-requires-clause-kind : goal.read_conjunction-requires-clause-kind
read_conjunction-requires-clause-kind c = elim c.in-PrimitiveConjunction.is [ inl e ↦ rw e refl | inr e ↦ rw e refl ]

pub returns-in-PrimitiveConjunction : goal.returns-in-PrimitiveConjunction
returns-in-PrimitiveConjunction c = (rw c.width.ensures at c.read_conjunction.ensures) ∙
    axiom_as_tail _ _ _ _ _ _ (rw c.width.ensures at c.if-self-after.false) _ c.number-left.ensures c.if-self-left.false c.if-left-least.false
    (rw c.width.ensures at c.if-self-after-2.false) c.in_ok-kind.kind (rw c.width.ensures at c.in_ok-kind.ensures)

pub returns-in-PrimitiveRestriction : goal.returns-in-PrimitiveRestriction
returns-in-PrimitiveRestriction c = (rw c.width.ensures at c.read_restriction.ensures) ∙
    axiom_as_tail _ _ _ _ _ _ (rw c.width.ensures at c.if-self-after.false) _ c.number-left.ensures c.if-self-left.false c.if-left-least.false
    (rw c.width.ensures at c.if-self-after-2.false) c.in_ok-kind.kind (rw c.width.ensures at c.in_ok-kind.ensures)
