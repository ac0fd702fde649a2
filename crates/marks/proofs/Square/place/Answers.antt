-- The row lies in the square, so that its place does not wrap.
use native.Mathlib.Omega.{arith}
use Rattle.marks.proofs.Squares.{product_small, place_of}
use Rattle.marks.proofs.Square.place.Goals as goal

pub overflow_mul-result : goal.overflow_mul-result
overflow_mul-result c = omega (arith, product_small {x = c.args.x} (omega arith) c.width-width.ensures.1)

pub overflow_add-result : goal.overflow_add-result
overflow_add-result c = omega (arith, product_small {x = c.args.x} (omega arith) c.width-width.ensures.1)

pub overflow_add-result-2 : goal.overflow_add-result-2
overflow_add-result-2 c = omega (arith, product_small {x = c.args.x} (omega arith) c.width-width.ensures.1)

pub returns : goal.returns
returns c = place_of c.args.self c.args.x c.args.y _ c.width-width.ensures.0 c.requires.x_le_names.0 c.requires.x_le_names.1
