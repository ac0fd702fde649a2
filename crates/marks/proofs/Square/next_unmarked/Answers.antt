-- All columns before the one that is looked at are marked.
use mathlib.Core.Path.{refl}
use native.Mathlib.Omega.{arith}
use Rattle.marks.proofs.Squares.{all_start, unmarked_here, all_one, all_byte, unmarked_none}
use Rattle.marks.proofs.Square.next_unmarked.Goals as goal

pub loop-y-init : goal.loop-y-init
loop-y-init c = all_start _ refl

pub place-i-requires : goal.place-i-requires
place-i-requires c = record { small = c.requires.room.small; x_le_names = (c.requires.x_le_names, c.loop-y-test.true) }

pub overflow_mul-y : goal.overflow_mul-y
overflow_mul-y c = omega (arith, c.loop-y-test.true, c.requires.room.small.few)

pub overflow_add-y : goal.overflow_add-y
overflow_add-y c = omega (arith, c.loop-y-test.true, c.requires.room.small.few)

pub loop-y-smaller-then-rest-y : goal.loop-y-smaller-then-rest-y
loop-y-smaller-then-rest-y c = omega (arith, c.loop-y-test.true)

pub loop-y-preserved-then-rest-y : goal.loop-y-preserved-then-rest-y
loop-y-preserved-then-rest-y c = all_byte c.loop-y.invariant c.place-i.ensures c.if-rest-y.true

pub overflow_add-y-then-rest-eq1 : goal.overflow_add-y-then-rest-eq1
overflow_add-y-then-rest-eq1 c = omega (arith, c.loop-y-test.true, c.requires.room.small.few)

pub loop-y-smaller : goal.loop-y-smaller
loop-y-smaller c = omega (arith, c.loop-y-test.true)

pub loop-y-preserved : goal.loop-y-preserved
loop-y-preserved c = all_one c.loop-y.invariant c.place-i.ensures c.if-rest-eq1.true

pub returns-else-rest-eq1 : goal.returns-else-rest-eq1
returns-else-rest-eq1 c = unmarked_here c.loop-y-test.true c.loop-y.invariant c.place-i.ensures c.if-rest-eq1.false

pub returns : goal.returns
returns c = unmarked_none c.loop-y.invariant c.loop-y-test.false
