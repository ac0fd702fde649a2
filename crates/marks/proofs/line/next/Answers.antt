-- The line is a row of bits from byte 0 on.
use native.Mathlib.Omega.{arith}
use Rattle.marks.proofs.Scans.{column_found}
use Rattle.marks.proofs.line.next.Goals as goal

pub next_bit-requires : goal.next_bit-requires
next_bit-requires c = record { few = c.requires.names_bound; inside = omega (arith, c.requires.spans.inside); near = omega (arith, c.requires.names_bound) }

pub returns : goal.returns
returns c = column_found _ _ _ _ c.next_bit.ensures
