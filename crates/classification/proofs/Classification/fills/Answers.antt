-- The tests are those of the rule, the cheapest first.
use native.Mathlib.Omega.{arith}
use Rattle.marks.proofs.Squares.{refuted}
use Rattle.marks.proofs.Passes.{due_there}
use Rattle.classification.proofs.Marking.{fillers_small, not_due, due_fill}
use Rattle.classification.proofs.Classification.fills.Goals as goal

pub returns-then-is_marked : goal.returns-then-is_marked
returns-then-is_marked c = due_there (c.is_marked.ensures.sound c.if-is_marked.true)

pub has_small-requires : goal.has_small-requires
has_small-requires c = omega (arith, c.role.ensures, c.requires.roles _ c.requires.left c.requires.is_restriction)

pub returns : goal.returns
returns c = not_due c.requires.defined c.role.ensures (refuted c.has_small.ensures c.if-has_small.false)

pub is_marked-requires-then-has_small : goal.is_marked-requires-then-has_small
is_marked-requires-then-has_small c = let small = fillers_small c.requires c.filler-under.ensures in record { room = c.requires.room; x_le_names = (small.0, small.1) }

pub returns-then-has_small : goal.returns-then-has_small
returns-then-has_small c = due_fill c.requires.defined c.role.ensures (c.has_small.ensures.sound c.if-has_small.true) c.filler-under.ensures c.is_marked-then-has_small.ensures
