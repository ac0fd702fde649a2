-- A pass over the pairs that finds nothing, and then one that hands marks on.
use Rattle.backward.proofs.Tested.{quiet_changed, quiet_unchanged}
use Rattle.backward.proofs.sweep.LostBelowRules.pass.Goals as goal

pub returns-then-look_at_names : goal.returns-then-look_at_names
returns-then-look_at_names c = quiet_changed c.look_at_names.ensures c.if-look_at_names.true

pub returns : goal.returns
returns c = quiet_unchanged c.look_at_names.ensures c.if-look_at_names.false (rw (c.first_square.ensures, c.marks.ensures) at c.hand_all.ensures)
