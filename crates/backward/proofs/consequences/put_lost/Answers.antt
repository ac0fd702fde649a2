-- A mark that the definitions allow is a step.
use Rattle.marks.specs.Passes.{none}
use Rattle.marks.proofs.Passes.{put_grows}
use Rattle.backward.specs.Rules.{from_definition}
use Rattle.backward.proofs.consequences.put_lost.Goals as goal

pub returns-then-is_marked : goal.returns-then-is_marked
returns-then-is_marked c = none

pub returns-then-defined_lost : goal.returns-then-defined_lost
returns-then-defined_lost c = put_grows c.put.ensures (from_definition (c.defined_lost.ensures.sound c.if-defined_lost.true))

pub returns-else-defined_lost : goal.returns-else-defined_lost
returns-else-defined_lost c = none
