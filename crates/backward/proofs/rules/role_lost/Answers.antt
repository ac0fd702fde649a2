-- A role that does not serve, and else one that does.
use Rattle.el.proofs.Tests.{always}
use Rattle.marks.proofs.Squares.{refuted}
use Rattle.backward.proofs.Tested.{from_nothing, tells_role_lost}
use Rattle.backward.proofs.rules.role_lost.Goals as goal

pub returns-then-nothing_lost : goal.returns-then-nothing_lost
returns-then-nothing_lost c = always (from_nothing c.serving-roles.ensures (c.nothing_lost.ensures.sound c.if-nothing_lost.true))

pub returns : goal.returns
returns c = tells_role_lost c.serving-roles.ensures (λ l. refuted c.nothing_lost.ensures c.if-nothing_lost.false l) c.filler_lost.ensures
