-- The product is small, since the names are few.
use native.Mathlib.Omega.{arith}
use Rattle.marks.proofs.Squares.{size_is, size_small}
use Rattle.marks.proofs.size.Goals as goal

pub overflow_mul-result : goal.overflow_mul-result
overflow_mul-result c = omega (arith, size_small c.args.names c.requires)

pub returns : goal.returns
returns c = (size_is c.args.names, size_small c.args.names c.requires)
