-- The count, the axiom and what stood from its place on are written, and the rest of the file stays.
use mathlib.Core.Path.{refl}
use native.Mathlib.Omega.{arith}
use Rattle.splicing.proofs.Places.{has_header}
use Rattle.splicing.proofs.Splices.{few, count_is, start_within, text_some, text_name, with_put}
use Rattle.splicing.proofs.put_in.Goals as goal

pub bounds-text-0 : goal.bounds-text-0
bounds-text-0 c = text_some _ _ _ c.requires.text_is.accepted

pub bounds-file-7 : goal.bounds-file-7
bounds-file-7 c = omega (arith, (has_header _ c.requires.copied.file).inside)

pub overflow_add-output : goal.overflow_add-output
overflow_add-output c = omega (arith, count_is _ c.requires.copied.file, few _ c.requires.copied.file)

pub slice_bounds-put_text-count : goal.slice_bounds-put_text-count
slice_bounds-put_text-count c =
    start_within _ _ _ c.requires (record { each = λ i l. omega (arith, c.type_inv.file i) }) _ (text_name _ _ c.from.ensures c.place-at.ensures)

pub slice_bounds-put_text-start : goal.slice_bounds-put_text-start
slice_bounds-put_text-start c =
    start_within _ _ _ c.requires (record { each = λ i l. omega (arith, c.type_inv.file i) }) _ (text_name _ _ c.from.ensures c.place-at.ensures)

pub returns : goal.returns
returns c =
    with_put _ _ _ c.requires (record { each = λ i l. omega (arith, c.type_inv.file i) }) _ (text_name _ _ c.from.ensures c.place-at.ensures) (omega arith) _
    c.put_text-next.ensures refl c.put_text.ensures
