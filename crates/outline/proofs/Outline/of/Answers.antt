-- `of` meets its contract. The loop keeps what is read, pending and written for every concept whose text the bytes are; it ends since
-- each turn reads a byte.
use native.Mathlib.Omega.{arith}
use mathlib.Core.Path.{refl}
use Rattle.outline.proofs.Turns.{some_width, split_there, turn, starts, ends}
use Rattle.outline.proofs.Outline.of.Goals as goal

pub loop-pending-init : goal.loop-pending-init
loop-pending-init c = starts c.requires (omega arith) (omega arith) refl

pub unwrap-first-requires : goal.unwrap-first-requires
unwrap-first-requires c = split_there c.loop-pending.invariant c.loop-pending-test.true c.requires _ c.split_constructor.ensures

pub loop-pending-preserved-in-Top : goal.loop-pending-preserved-in-Top
loop-pending-preserved-in-Top c = turn c.loop-pending.invariant c.loop-pending-test.true (rw c.unwrap-first.ensures at c.split_constructor.ensures) (some_width _) c.in-Top.is c.arity.ensures

pub loop-pending-preserved-in-Name : goal.loop-pending-preserved-in-Name
loop-pending-preserved-in-Name c =
    (turn c.loop-pending.invariant c.loop-pending-test.true (rw c.unwrap-first.ensures at c.split_constructor.ensures) (some_width _) c.in-Name.is c.arity.ensures)

pub loop-pending-preserved-in-Conjunction : goal.loop-pending-preserved-in-Conjunction
loop-pending-preserved-in-Conjunction c =
    turn c.loop-pending.invariant c.loop-pending-test.true (rw c.unwrap-first.ensures at c.split_constructor.ensures) (some_width _) c.in-Conjunction.is c.arity.ensures

pub loop-pending-preserved : goal.loop-pending-preserved
loop-pending-preserved c = (turn c.loop-pending.invariant c.loop-pending-test.true (rw c.unwrap-first.ensures at c.split_constructor.ensures) (some_width _) c.in-Restriction.is c.arity.ensures)

pub returns : goal.returns
returns c = λ n m d t. ends c.loop-pending.invariant c.loop-pending-test.false n m d t _ c.from.ensures
