-- `arrange` meets its contract: the rows of two squares fit into one, so nothing is written over before it is read.
use native.Mathlib.Omega.{arith}
use Rattle.witness_below.proofs.Arranged.{twice_span, moved, arranged_is}
use Rattle.witness_below.proofs.arranging.arrange.Goals as goal

pub overflow_add-size : goal.overflow_add-size
overflow_add-size c = omega (arith, twice_span c.requires, c.size-size.ensures.0, c.size-size.ensures.1, c.span-span.ensures)

pub copy_within-requires-clause-in_bounds : goal.copy_within-requires-clause-in_bounds
copy_within-requires-clause-in_bounds c = omega (arith, twice_span c.requires, c.size-size.ensures.0, c.span-span.ensures, c.requires.room)

pub copy_within-requires-clause-dest_in_bounds : goal.copy_within-requires-clause-dest_in_bounds
copy_within-requires-clause-dest_in_bounds c = omega (arith, twice_span c.requires, c.size-size.ensures.0, c.span-span.ensures, c.requires.room)

pub overflow_mul-span : goal.overflow_mul-span
overflow_mul-span c = omega (arith, twice_span c.requires, c.size-size.ensures.0, c.size-size.ensures.1, c.span-span.ensures)

pub overflow_mul-span-2 : goal.overflow_mul-span-2
overflow_mul-span-2 c = omega (arith, twice_span c.requires, c.size-size.ensures.0, c.size-size.ensures.1, c.span-span.ensures)

pub overflow_mul-size : goal.overflow_mul-size
overflow_mul-size c = omega (arith, c.size-size.ensures.1)

pub overflow_add-span : goal.overflow_add-span
overflow_add-span c = omega (arith, twice_span c.requires, c.size-size.ensures.0, c.size-size.ensures.1, c.span-span.ensures)

pub clear_between-requires : goal.clear_between-requires
clear_between-requires c = (omega arith, omega (arith, twice_span c.requires, c.size-size.ensures.0, c.span-span.ensures, c.requires.room, c.copy_within.ensures.len))

pub returns : goal.returns
returns c = arranged_is c.requires c.span-span.ensures c.size-size.ensures.0 (moved c.copy_within.ensures.len c.copy_within.ensures.by_index) c.clear_between.ensures
