-- By the row of a name its axiom starts before the tail.
use mathlib.Core.Path.{sym, ◌∙◌}
use native.Mathlib.Omega.{arith}
use Rattle.release.proofs.KindNumbers.{some_kind}
use Rattle.release.proofs.Places.{place_outside, place_blank, tail_far, place_inside, place_told, version_within}
use Rattle.release.proofs.show.place_in.Goals as goal

pub returns-then-names-name : goal.returns-then-names-name
returns-then-names-name c = place_outside c.requires.accepted _ _ (omega (arith, c.if-names-name.true, c.requires.names))

pub returns-in_err-kind : goal.returns-in_err-kind
returns-in_err-kind c = rw c.from_residual.ensures (place_blank c.requires.accepted _ _ (omega (arith, c.if-names-name.false, c.requires.names)) (sym c.in_err-kind.ensures))

pub of-version-requires : goal.of-version-requires
of-version-requires c = version_within c.requires.accepted

pub overflow_sub-start : goal.overflow_sub-start
overflow_sub-start c = omega
    (arith, c.tail.ensures, tail_far c.requires.accepted 1 _ (omega (arith, c.if-names-name.false, c.requires.names)) (some_kind c.in_ok-kind.field-0 c.in_ok-kind.ensures))

pub overflow_sub-start-2 : goal.overflow_sub-start-2
overflow_sub-start-2 c = omega (
  arith,
  c.tail.ensures,
  c.width.ensures,
  c.of-version.ensures.width,
  tail_far c.requires.accepted 1 _ (omega (arith, c.if-names-name.false, c.requires.names)) (some_kind c.in_ok-kind.field-0 c.in_ok-kind.ensures),
)

pub axiom_length-requires : goal.axiom_length-requires
axiom_length-requires c = rw (← c.width.ensures) (place_inside c.requires.accepted 1 _ (omega (arith, c.if-names-name.false, c.requires.names)) (some_kind c.in_ok-kind.field-0 c.in_ok-kind.ensures)
    _ _ (c.width.ensures ∙ c.of-version.ensures.width) c.tail.ensures)

pub returns : goal.returns
returns c = place_told c.requires.accepted _ _ (omega (arith, c.if-names-name.false, c.requires.names)) (some_kind c.in_ok-kind.field-0 c.in_ok-kind.ensures) _ _
    (c.width.ensures ∙ c.of-version.ensures.width) c.tail.ensures _ (rw (← c.width.ensures) at c.axiom_length.ensures)
