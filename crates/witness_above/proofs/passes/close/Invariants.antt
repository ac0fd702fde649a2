-- `passes::close` meets its contract. Invariant: turns were made; each pass but the last leaves fewer pairs held, and so it stays.
use mathlib.Core.Path.{◌≡◌}
use lib.ListN.{length}
use Rattle.witness_above.specs.Left.{held}
use Rattle.witness_above.specs.Passes.{Went}
use Rattle.witness_above.proofs.passes.close.Given as goal

abbrev pub invariant-loop-written : goal.invariant-loop-written
invariant-loop-written l = Went l.given l.asked.0 0 l.initial.rows l.rows l.initial.numbers l.numbers l.initial.work l.work l.written × (length l.seen ≡ length l.initial.seen)

abbrev pub decreases-loop-written : goal.decreases-loop-written
decreases-loop-written l = held l.work l.given.layout.marks l.given.layout.names
