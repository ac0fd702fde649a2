-- The count and what stood after the axiom are written, and the rest of the file stays.
use mathlib.Core.Path.{refl}
use native.Mathlib.Numerals.{add-one}
use native.Mathlib.Omega.{arith}
use Rattle.splicing.proofs.Places.{has_header}
use Rattle.splicing.proofs.Splices.{taken_small, some_axiom, next_within, without_put}
use Rattle.splicing.proofs.take_out.Goals as goal

pub overflow_add-name : goal.overflow_add-name
overflow_add-name c = omega (arith, taken_small _ _ c.requires.copied.file c.requires.taken)

pub bounds-file-7 : goal.bounds-file-7
bounds-file-7 c = omega (arith, (has_header _ c.requires.copied.file).inside)

pub overflow_sub-output : goal.overflow_sub-output
overflow_sub-output c = some_axiom _ _ _ c.requires (record { each = λ i l. omega (arith, c.type_inv.file i) }) _ _ c.place-at.ensures (rw add-one at c.place-next.ensures)

pub slice_bounds-put_text-count : goal.slice_bounds-put_text-count
slice_bounds-put_text-count c = next_within _ _ _ c.requires (record { each = λ i l. omega (arith, c.type_inv.file i) }) _ _ c.place-at.ensures (rw add-one at c.place-next.ensures)

pub slice_bounds-put_text-start : goal.slice_bounds-put_text-start
slice_bounds-put_text-start c = next_within _ _ _ c.requires (record { each = λ i l. omega (arith, c.type_inv.file i) }) _ _ c.place-at.ensures (rw add-one at c.place-next.ensures)

pub returns : goal.returns
returns c =
    without_put _ _ _ c.requires (record { each = λ i l. omega (arith, c.type_inv.file i) }) _ _ c.place-at.ensures (rw add-one at c.place-next.ensures) (omega arith) _ refl
    c.put_text.ensures
