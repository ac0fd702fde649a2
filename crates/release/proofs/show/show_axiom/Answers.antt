-- The part lies inside the file that holds it, so its bytes, its block and its place are those of the definition.
use mathlib.Core.Logic.{⊎_elim}
use native.Mathlib.Omega.{arith}
use Rattle.release.proofs.Places.{either_holds, second_holds, first_holds, part_bytes, part_block, part_place, holder_second, holder_first}
use Rattle.release.proofs.show.show_axiom.Goals as goal

pub overflow_add-end : goal.overflow_add-end
overflow_add-end c = ⊎_elim (λ w. omega arith) (λ w. omega arith) (either_holds _ _ _ _ _ c.axiom_place-place.ensures)

pub slice_bounds-result-end : goal.slice_bounds-result-end
slice_bounds-result-end c = second_holds _ _ _ _ _ c.axiom_place-place.ensures c.if-place-eq2.true

pub returns-then-place-eq2 : goal.returns-then-place-eq2
returns-then-place-eq2 c =
    let a = c.args in
    let e = c.axiom_place-place.ensures in
    let h = holder_second a.first a.second c.axiom_place-place.result c.if-place-eq2.true in
    record { bytes = part_bytes a.first a.second a.side a.name.0 _ e _ h; block = part_block a.first a.second a.side a.name.0 _ e _ h; place = part_place a.first a.second a.side a.name.0 _ e _ h }

pub slice_bounds-result-end-2 : goal.slice_bounds-result-end-2
slice_bounds-result-end-2 c = first_holds _ _ _ _ _ c.axiom_place-place.ensures c.if-place-eq2.false

pub returns : goal.returns
returns c =
    let a = c.args in
    let e = c.axiom_place-place.ensures in
    let h = holder_first a.first a.second c.axiom_place-place.result c.if-place-eq2.false in
    record { bytes = part_bytes a.first a.second a.side a.name.0 _ e _ h; block = part_block a.first a.second a.side a.name.0 _ e _ h; place = part_place a.first a.second a.side a.name.0 _ e _ h }
