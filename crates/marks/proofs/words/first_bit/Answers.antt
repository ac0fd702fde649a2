-- The zeros at the low end are as many as the place of the first bit.
use lib.Count.{trailing_le}
use native.Mathlib.Omega.{arith}
use Rattle.marks.proofs.WordBits.{first_bit}
use Rattle.marks.proofs.words.first_bit.Goals as goal

pub overflow_cast-result : goal.overflow_cast-result
overflow_cast-result c = omega (arith, trailing_le 64 c.args.word)

pub returns : goal.returns
returns c = first_bit c.requires (omega arith)
