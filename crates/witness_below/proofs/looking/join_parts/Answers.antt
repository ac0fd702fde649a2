-- `looking::join_parts` meets its contract: the invariant says that the rows so far are a chain over the conjuncts so far.
use native.Mathlib.Omega.{arith}
use Rattle.release.proofs.PartWalks.{part_is, part_among, walk_on, item, among, gone_on}
use Rattle.witness_below.proofs.Searching.{part_inside}
use Rattle.witness_below.proofs.Looks.{marked_here, joined_first, joined_more}
use Rattle.witness_below.proofs.looking.join_parts.Goals as goal

pub cell-row-requires : goal.cell-row-requires
cell-row-requires c =
    let asks = c.requires.to_parts in let first = c.in_ok-begin.ensures.steps in
    (asks.cells, omega (arith, part_inside asks.shaped asks.row asks.kind (part_among c.parts-parts.ensures first) (part_is c.parts-parts.ensures first)), asks.column)

pub overflow_sub-row : goal.overflow_sub-row
overflow_sub-row c =
    let first = c.in_ok-begin.ensures.steps in
    marked_here c.requires.all_marked (part_among c.parts-parts.ensures first) (part_is c.parts-parts.ensures first) c.cell-row.ensures

pub loop-part-init : goal.loop-part-init
loop-part-init c =
    let first = c.in_ok-begin.ensures.steps in
    record {
      index = 1;
      walk = rw c.into_iter-part-iterator.ensures.into_iter_gives (walk_on c.parts-parts.ensures first);
      kept = joined_first c.requires.all_marked (part_among c.parts-parts.ensures first) (part_is c.parts-parts.ensures first) c.cell-row.ensures;
    }

pub cell-kept-requires : goal.cell-kept-requires
cell-kept-requires c =
    let asks = c.requires.to_parts in let p = c.loop-part.invariant in let given = c.in-Some.ensures.steps in
    (asks.cells, omega (arith, part_inside asks.shaped asks.row asks.kind (among p given) (item p given)), asks.column)

pub overflow_sub-kept : goal.overflow_sub-kept
overflow_sub-kept c =
    let p = c.loop-part.invariant in let given = c.in-Some.ensures.steps in
    marked_here c.requires.all_marked (among p given) (item p given) c.cell-kept.ensures

pub loop-part-preserved : goal.loop-part-preserved
loop-part-preserved c =
    let p = c.loop-part.invariant in let given = c.in-Some.ensures.steps in
    gone_on p given (joined_more c.requires.all_marked (among p given) (item p given) c.cell-kept.ensures p.kept c.put_row.ensures
    (omega (arith, c.requires.room_for.small, p.kept.few, among p given)))
