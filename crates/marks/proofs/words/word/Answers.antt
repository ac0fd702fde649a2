-- The last i bytes are read.
use Prim.Native.Nat.{◌+◌, ◌-◌}
use native.Mathlib.Omega.{arith}
use Rattle.marks.proofs.WordBits.{reads_none, read_fits, reads_step, reads_end}
use Rattle.marks.proofs.words.word.Goals as goal

pub loop-i-init : goal.loop-i-init
loop-i-init c = reads_none

pub overflow_mul-word : goal.overflow_mul-word
overflow_mul-word c = omega (arith, read_fits c.loop-i-test.true c.loop-i.invariant)

pub overflow_add-word : goal.overflow_add-word
overflow_add-word c = omega (arith, read_fits c.loop-i-test.true c.loop-i.invariant, c.from.ensures, c.type_inv.memory (c.args.at + (7 - c.loop-i.i)))

pub loop-i-preserved : goal.loop-i-preserved
loop-i-preserved c = reads_step _ c.loop-i-test.true (c.from.ensures, omega (arith, c.from.ensures, c.type_inv.memory (c.args.at + (7 - c.loop-i.i)))) c.loop-i.invariant

pub returns : goal.returns
returns c = reads_end (omega (arith, c.loop-i.auto.i-end, c.loop-i-test.false)) c.loop-i.invariant
