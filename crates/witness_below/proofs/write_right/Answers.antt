-- `write_right` meets its contract: memory is arranged, and then the rows are written.
use native.Mathlib.Omega.{arith}
use mathlib.Core.Path.{refl}
use Rattle.witness_below.proofs.Arranged.{arrange_asks, to_write, reported, span_small}
use Rattle.witness_below.proofs.write_right.Goals as goal

pub arrange-span-requires : goal.arrange-span-requires
arrange-span-requires c = arrange_asks c.requires.to_write

pub overflow_mul-arranged : goal.overflow_mul-arranged
overflow_mul-arranged c = omega (arith, span_small c.requires.to_write c.arrange-span.ensures)

pub write_arranged-requires-clause-to_write : goal.write_arranged-requires-clause-to_write
write_arranged-requires-clause-to_write c = to_write c.requires.to_write c.arrange-span.ensures refl refl refl refl refl

pub returns : goal.returns
returns c = reported c.requires.to_write c.arrange-span.ensures refl refl refl refl refl c.write_arranged.ensures
