-- `passes::close` meets its contract: the invariant says what holds after the passes so far; each that changes something leaves fewer pairs to do.
use mathlib.Core.Path.{◌≡◌}
use lib.ListN.{length}
use Rattle.witness_below.specs.Tasks.{todo, Went}
use Rattle.witness_below.proofs.passes.close.Given as goal

abbrev pub invariant-loop-name : goal.invariant-loop-name
invariant-loop-name l = Went l.given 0 l.initial.rows l.rows l.initial.numbers l.numbers l.initial.work l.work l.written × (length l.notes ≡ length l.initial.notes)

abbrev pub decreases-loop-name : goal.decreases-loop-name
decreases-loop-name l = todo l.given.layout l.work
