-- `tracing::retrace` meets its contract: it writes where it may.
use mathlib.Core.Path.{◌≡◌}
use lib.ListN.{length}
use Rattle.witness_below.proofs.tracing.retrace.Given as goal

abbrev pub invariant-loop-next : goal.invariant-loop-next
invariant-loop-next l = length l.notes ≡ length l.initial.notes
