-- One row: marks taken from above, then those of its edge; both are steps of the rules.
use Rattle.marks.proofs.Passes.{grows_further}
use Rattle.forward.specs.Rules.{setting_stays}
use Rattle.forward.proofs.Tested.{taking_grows}
use Rattle.forward.proofs.propagation.first_row.Goals as goal

pub first_edge-requires-clause-setting : goal.first_edge-requires-clause-setting
first_edge-requires-clause-setting c =
    let squares = c.taking.ensures.squares in
    let grows = rw (c.taking.ensures.direction, squares.0, squares.1) at c.hand.ensures.grows in
    setting_stays grows c.requires.setting

pub returns-then-x-given : goal.returns-then-x-given
returns-then-x-given c =
    let squares = c.taking.ensures.squares in
    let grows = rw (c.taking.ensures.direction, squares.0, squares.1) at c.hand.ensures.grows in
    grows_further (taking_grows grows) c.first_edge.ensures

pub returns-else-x-given : goal.returns-else-x-given
returns-else-x-given c =
    let squares = c.taking.ensures.squares in
    let grows = rw (c.taking.ensures.direction, squares.0, squares.1) at c.hand.ensures.grows in
    taking_grows grows
