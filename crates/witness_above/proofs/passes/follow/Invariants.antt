-- `passes::follow` meets its contract. Invariant: turns were made; nothing is said of which.
use mathlib.Core.Path.{◌≡◌}
use lib.ListN.{length}
use Rattle.witness_above.specs.Passes.{Went}
use Rattle.witness_above.proofs.passes.follow.Given as goal

abbrev pub invariant-loop-name : goal.invariant-loop-name
invariant-loop-name l = Went l.given l.asked.0 l.count l.initial.rows l.rows l.initial.numbers l.numbers l.initial.work l.work l.written × (length l.seen ≡ length l.initial.seen)
