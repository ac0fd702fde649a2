-- The roles of the edge that serve, where y is defined by a restriction.
use Rattle.marks.proofs.Squares.{refuted}
use Rattle.backward.proofs.Tested.{all_serving, none_serving}
use Rattle.backward.proofs.rules.serving.Goals as goal

pub returns-then-is_restriction : goal.returns-then-is_restriction
returns-then-is_restriction c = all_serving c.requires (c.is_restriction.ensures.sound c.if-is_restriction.true) (rw c.role.ensures at c.under.ensures) c.meet.ensures

pub returns : goal.returns
returns c = none_serving (λ w. refuted c.is_restriction.ensures c.if-is_restriction.false w)
