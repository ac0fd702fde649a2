-- `finding::asked_column_part` meets its contract: it reads where it may, and answers a conjunct if anything.
use native.Mathlib.Omega.{arith}
use Rattle.release.proofs.PartWalks.{begun, item, among, gone_on}
use Rattle.witness_below.proofs.Searching.{to_walk, part_inside}
use Rattle.witness_below.proofs.finding.asked_column_part.Goals as goal

pub parts-part-items-requires : goal.parts-part-items-requires
parts-part-items-requires c = to_walk c.requires.shaped c.requires.column c.requires.kind

pub loop-part-init : goal.loop-part-init
loop-part-init c = begun c.parts-part-items.ensures c.into_iter-part-iterator.ensures.into_iter_gives tt

pub cell-requires : goal.cell-requires
cell-requires c =
    let p = c.loop-part.invariant in let given = c.in-Some.ensures.steps in
    (c.requires.cells, c.requires.row, omega (arith, part_inside c.requires.shaped c.requires.column c.requires.kind (among p given) (item p given)))

pub loop-part-preserved : goal.loop-part-preserved
loop-part-preserved c =
    let p = c.loop-part.invariant in let given = c.in-Some.ensures.steps in
    gone_on p given (omega (arith, part_inside c.requires.shaped c.requires.column c.requires.kind (among p given) (item p given)))
