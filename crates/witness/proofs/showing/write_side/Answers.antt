-- `write_side` meets its contract: what is handed on is what the writers ask, and their rows show the difference.
use mathlib.Core.Path.{ap}
use Prim.Native.Nat.{ℕ}
use lib.ListN.{length-replicate}
use Rattle.comparison.proofs.Pipeline.{handable}
use Rattle.witness.specs.Asked.{side_number}
use Rattle.witness.proofs.Writing.{zeros, to_write_left, left_written, to_write_right, right_written}
use Rattle.witness.proofs.showing.write_side.Goals as goal

pub given-above-requires-clause-ranged : goal.given-above-requires-clause-ranged
given-above-requires-clause-ranged c = handable c.requires.show.given.both c.requires.show.given.signature

pub given-below-requires-clause-ranged : goal.given-below-requires-clause-ranged
given-below-requires-clause-ranged c = handable c.requires.show.given.both c.requires.show.given.signature

pub write_left-requires-clause-write : goal.write_left-requires-clause-write
write_left-requires-clause-write c = to_write_left c.requires c.given-above.ensures (length-replicate {A = ℕ} 1024 0) (zeros 1024)

pub returns-in-Left : goal.returns-in-Left
returns-in-Left c = left_written c.requires c.given-above.ensures (ap side_number c.in-Left.is) c.write_left.ensures

pub write_right-requires-clause-to_write : goal.write_right-requires-clause-to_write
write_right-requires-clause-to_write c = to_write_right c.requires c.given-below.ensures (length-replicate {A = ℕ} 1024 0)

pub returns-in-Right : goal.returns-in-Right
returns-in-Right c = right_written c.requires c.given-below.ensures (ap side_number c.in-Right.is) c.write_right.ensures
