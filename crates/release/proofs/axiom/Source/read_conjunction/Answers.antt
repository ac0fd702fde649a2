-- The tests of a count and its conjuncts, in the order of the definition: each return is one of its cases.
use mathlib.Core.Path.{◌∙◌}
use native.Mathlib.Omega.{arith}
use Rattle.release.proofs.Faults.{conjunction_7, conjunction_many, conjunction_parts}
use Rattle.release.proofs.Readings.{conjunction_refused, conjunction_read}
use Rattle.release.proofs.Refusing.{accepts, is_accepted, passes_on, passed}
use Rattle.release.proofs.axiom.Source.read_conjunction.Goals as goal

pub returns-then-self-tail : goal.returns-then-self-tail
returns-then-self-tail c = conjunction_refused _ _ _ _ _ _ _ c.requires.kind 7 (omega arith) (conjunction_7 _ _ _ _ c.if-self-tail.true)

pub returns-then-count-gt-CONJUNCTS : goal.returns-then-count-gt-CONJUNCTS
returns-then-count-gt-CONJUNCTS c = conjunction_refused _ _ _ _ _ _ _ c.requires.kind 12 (omega arith)
    (conjunction_many _ _ _ _ c.if-self-tail.false _ c.from-count.ensures c.if-count-gt-CONJUNCTS.true)

pub returns-in_err-check_parts : goal.returns-in_err-check_parts
returns-in_err-check_parts c = rw (passed _ c.in_err-check_parts.field-0.0 c.from_residual.ensures.1)
    (passes_on 1 _ _ _ _ _ c.in_err-check_parts.ensures (λ some. conjunction_parts _ _ _ _ c.if-self-tail.false _ c.from-count.ensures c.if-count-gt-CONJUNCTS.false) ∙
    conjunction_read _ _ _ _ _ _ _ c.requires.kind _ c.from-count.ensures)

pub returns : goal.returns
returns c = rw c.width.ensures
    (accepts 1 _ _
    (conjunction_parts _ _ _ _ c.if-self-tail.false _ c.from-count.ensures c.if-count-gt-CONJUNCTS.false ∙ (is_accepted 1 _ _ _ c.in_ok-check_parts.ensures).0) ∙
    conjunction_read _ _ _ _ _ _ _ c.requires.kind _ c.from-count.ensures)
