-- `span` meets its contract: rows of so many bytes as the definition says, and their product does not wrap.
use native.Mathlib.Omega.{arith}
use Rattle.witness_below.proofs.Arranged.{span_fits, span_is}
use Rattle.witness_below.proofs.arranging.span.Goals as goal

pub overflow_mul-result : goal.overflow_mul-result
overflow_mul-result c = omega (arith, span_fits _ c.requires)

pub returns : goal.returns
returns c = span_is _
