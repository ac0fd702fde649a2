-- Five squares of bits need no more than one of bytes where the test holds.
use native.Mathlib.Omega.{arith}
use borrow.Author.Tests.{leb-true}
use Rattle.marks.proofs.Squares.{roomy}
use Rattle.marks.proofs.is_roomy.Goals as goal

pub width-requires : goal.width-requires
width-requires c = c.requires

pub overflow_mul-result : goal.overflow_mul-result
overflow_mul-result c = omega (arith, c.width.ensures.1)

pub overflow_add-result : goal.overflow_add-result
overflow_add-result c = omega (arith, c.requires)

pub returns : goal.returns
returns c = λ e. roomy _ c.width.ensures.0 (leb-true _ _ e)
