-- No bit is 1 before the block that is looked at.
use mathlib.Core.Path.{refl}
use native.Mathlib.Omega.{arith}
use Rattle.marks.proofs.Scans.{next_start, next_none, next_found, next_block}
use Rattle.marks.proofs.WordBits.{end_after}
use Rattle.marks.proofs.words.next_bit.Goals as goal

pub loop-y-init : goal.loop-y-init
loop-y-init c = next_start _ refl

pub rest-rest-requires : goal.rest-rest-requires
rest-rest-requires c = record { column = c.loop-y-test.true; inside = c.requires.inside; near = c.requires.near }

pub first_bit-requires : goal.first_bit-requires
first_bit-requires c = c.if-rest-gt0.true

pub overflow_add-found : goal.overflow_add-found
overflow_add-found c = omega (arith, c.first_bit.ensures.few, c.loop-y-test.true, c.requires.few)

pub returns-then-rest-gt0 : goal.returns-then-rest-gt0
returns-then-rest-gt0 c = next_found c.rest-rest.ensures c.loop-y.invariant c.first_bit.ensures c.then_some.ensures

pub block_end-y-requires : goal.block_end-y-requires
block_end-y-requires c = (c.loop-y-test.true, c.requires.few)

pub loop-y-smaller : goal.loop-y-smaller
loop-y-smaller c = omega (arith, c.loop-y-test.true, c.block_end-y.ensures, end_after c.args.names c.loop-y.y)

pub loop-y-preserved : goal.loop-y-preserved
loop-y-preserved c = next_block c.rest-rest.ensures c.loop-y.invariant c.block_end-y.ensures c.if-rest-gt0.false

pub returns : goal.returns
returns c = next_none c.loop-y.invariant c.loop-y-test.false
