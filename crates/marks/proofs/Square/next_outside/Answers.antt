-- Each mark before the block that is looked at is in the line.
use mathlib.Core.Path.{refl}
use native.Mathlib.Omega.{arith}
use Rattle.marks.proofs.Lines.{out_start, out_none}
use Rattle.marks.proofs.Scans.{row_at_lem, line_at, out_found, out_block}
use Rattle.marks.proofs.WordBits.{end_after}
use Rattle.marks.proofs.Square.next_outside.Goals as goal

pub loop-y-init : goal.loop-y-init
loop-y-init c = out_start _ refl

pub rest-out-requires : goal.rest-out-requires
rest-out-requires c = line_at (omega (arith, c.requires.room.small.few)) c.loop-y-test.true c.requires.spans

pub rest-all-requires : goal.rest-all-requires
rest-all-requires c = row_at_lem c.requires.room c.requires.x_le_names c.loop-y-test.true c.place-row.ensures

pub first_bit-requires : goal.first_bit-requires
first_bit-requires c = c.if-rest-gt0.true

pub overflow_add-found : goal.overflow_add-found
overflow_add-found c = omega (arith, c.first_bit.ensures.few, c.loop-y-test.true, c.requires.room.small.few)

pub returns-then-rest-gt0 : goal.returns-then-rest-gt0
returns-then-rest-gt0 c = out_found c.place-row.ensures c.rest-all.ensures c.rest-out.ensures c.loop-y.invariant c.first_bit.ensures c.then_some.ensures

pub block_end-y-requires : goal.block_end-y-requires
block_end-y-requires c = (c.loop-y-test.true, omega (arith, c.requires.room.small.few))

pub loop-y-smaller : goal.loop-y-smaller
loop-y-smaller c = omega (arith, c.loop-y-test.true, c.block_end-y.ensures, end_after c.args.self.names c.loop-y.y)

pub loop-y-preserved : goal.loop-y-preserved
loop-y-preserved c = out_block c.place-row.ensures c.rest-all.ensures c.rest-out.ensures c.loop-y.invariant c.block_end-y.ensures c.if-rest-gt0.false

pub returns : goal.returns
returns c = out_none c.loop-y.invariant c.loop-y-test.false
