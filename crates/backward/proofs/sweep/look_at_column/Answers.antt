-- The loop's invariant: the pairs of the rows before the next one are looked at.
use native.Mathlib.Omega.{arith}
use Rattle.marks.proofs.Passes.{turns_none, turn_both, pass_as, pass_none, below_end}
use Rattle.release.proofs.KindNumbers.{is_not_kind}
use Rattle.backward.proofs.Tested.{not_joined_column}
use Rattle.backward.proofs.sweep.look_at_column.Goals as goal

pub returns-then-not-has_kind : goal.returns-then-not-has_kind
returns-then-not-has_kind c = pass_none (not_joined_column (is_not_kind c.has_kind.ensures c.if-not-has_kind.true))

pub loop-x-init : goal.loop-x-init
loop-x-init c = turns_none

pub loop-x-preserved : goal.loop-x-preserved
loop-x-preserved c = turn_both c.loop-x.invariant c.look_at_parts-new.ensures

pub returns-else-not-has_kind-2 : goal.returns-else-not-has_kind-2
returns-else-not-has_kind-2 c = pass_as (λ b. record { cells = below_end (omega arith) b }) (turn_both c.loop-x.invariant c.look_at_parts-new.ensures)
