-- The places behind a small square do not wrap.
use native.Mathlib.Omega.{arith}
use Rattle.marks.proofs.Squares.{behind_small, behind_is}
use Rattle.marks.proofs.Square.behind.Goals as goal

pub width-width-requires : goal.width-width-requires
width-width-requires c = c.requires.0.few

pub overflow_add-result : goal.overflow_add-result
overflow_add-result c = omega (arith, c.requires.0.few)

pub overflow_mul-result : goal.overflow_mul-result
overflow_mul-result c = omega (arith, behind_small c.requires c.width-width.ensures.0)

pub overflow_mul-result-2 : goal.overflow_mul-result-2
overflow_mul-result-2 c = omega (arith, behind_small c.requires c.width-width.ensures.0)

pub overflow_add-result-2 : goal.overflow_add-result-2
overflow_add-result-2 c = omega (arith, behind_small c.requires c.width-width.ensures.0, c.requires.0.near)

pub returns : goal.returns
returns c = behind_is _ _ c.width-width.ensures.0
