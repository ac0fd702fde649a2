-- `passes::chase` meets its contract: the invariant says what holds after the looks so far, of which no more wait than there were.
use mathlib.Core.Path.{◌≡◌}
use Prim.Native.Nat.{◌≤◌}
use lib.ListN.{length}
use Rattle.witness_below.specs.Tasks.{Chased}
use Rattle.witness_below.proofs.passes.chase.Given as goal

abbrev pub invariant-loop : goal.invariant-loop
invariant-loop l = (l.walk.depth ≤ l.counter) × Chased l.given l.count l.initial.rows l.rows l.initial.numbers l.numbers l.initial.work l.work l.written
    × (length l.notes ≡ length l.initial.notes)
