-- `find_row_part` meets its contract: the invariant says that all conjuncts so far are marked.
use native.Mathlib.Omega.{arith}
use Rattle.release.proofs.PartWalks.{begun, item, among, gone_on, ended}
use Rattle.witness_below.proofs.Searching.{to_walk, part_inside, none_start, none_more, no_part_found, part_found}
use Rattle.witness_below.proofs.finding.find_row_part.Goals as goal

pub parts-part-items-requires : goal.parts-part-items-requires
parts-part-items-requires c = to_walk c.requires.shaped c.requires.row c.requires.kind

pub loop-part-init : goal.loop-part-init
loop-part-init c = begun c.parts-part-items.ensures c.into_iter-part-iterator.ensures.into_iter_gives none_start

pub cell-requires : goal.cell-requires
cell-requires c =
    let p = c.loop-part.invariant in let given = c.in-Some.ensures.steps in
    (c.requires.cells, omega (arith, part_inside c.requires.shaped c.requires.row c.requires.kind (among p given) (item p given)), c.requires.column)

pub returns-then-cell-le-OPEN : goal.returns-then-cell-le-OPEN
returns-then-cell-le-OPEN c =
    let p = c.loop-part.invariant in let given = c.in-Some.ensures.steps in
    part_found (among p given) (item p given) (part_inside c.requires.shaped c.requires.row c.requires.kind (among p given) (item p given)) (omega (arith, c.cell.ensures.is))

pub loop-part-preserved : goal.loop-part-preserved
loop-part-preserved c =
    let p = c.loop-part.invariant in let given = c.in-Some.ensures.steps in
    gone_on p given (none_more p.kept (item p given) (λ l. omega (arith, c.cell.ensures.is)))

pub returns : goal.returns
returns c = no_part_found (ended c.loop-part.invariant c.in-None.ensures.steps)
