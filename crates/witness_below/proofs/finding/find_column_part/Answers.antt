-- `find_column_part` meets its contract: the invariant says what the best conjunct so far is.
use native.Mathlib.Omega.{arith}
use Rattle.release.proofs.PartWalks.{begun, item, among, gone_on, ended}
use Rattle.witness_below.proofs.Searching.{to_walk, part_inside, none_start, part_found, best_none, best_is, best_more, best_stays, best_found}
use Rattle.witness_below.proofs.finding.find_column_part.Goals.{else-kept-eq-UNASKED-via-then-kept-eq-UNASKED+else-is_none, else-kept-eq-UNASKED-via-else-kept-eq-UNASKED}
use Rattle.witness_below.proofs.finding.find_column_part.Goals as goal

pub parts-part-items-requires : goal.parts-part-items-requires
parts-part-items-requires c = to_walk c.requires.shaped c.requires.column c.requires.kind

pub loop-part-init : goal.loop-part-init
loop-part-init c = begun c.parts-part-items.ensures c.into_iter-part-iterator.ensures.into_iter_gives (best_none none_start)

pub cell-kept-requires : goal.cell-kept-requires
cell-kept-requires c =
    let p = c.loop-part.invariant in let given = c.in-Some.ensures.steps in
    (c.requires.cells, c.requires.row, omega (arith, part_inside c.requires.shaped c.requires.column c.requires.kind (among p given) (item p given)))

pub returns-then-kept-gt-OPEN : goal.returns-then-kept-gt-OPEN
returns-then-kept-gt-OPEN c =
    let p = c.loop-part.invariant in let given = c.in-Some.ensures.steps in
    part_found (among p given) (item p given) (part_inside c.requires.shaped c.requires.column c.requires.kind (among p given) (item p given))
    (λ one. omega (arith, c.cell-kept.ensures.is))

pub loop-part-preserved-then-is_none : goal.loop-part-preserved-then-is_none
loop-part-preserved-then-is_none c =
    let p = c.loop-part.invariant in let given = c.in-Some.ensures.steps in
    gone_on p given (best_is (part_found (among p given) (item p given) (part_inside c.requires.shaped c.requires.column c.requires.kind (among p given) (item p given))
    (λ one. omega (arith, c.cell-kept.ensures.is))))

pub loop-part-preserved : goal.loop-part-preserved
loop-part-preserved c =
    let p = c.loop-part.invariant in let given = c.in-Some.ensures.steps in
    elim c.else-kept-eq-UNASKED.branch [
      | else-kept-eq-UNASKED-via-then-kept-eq-UNASKED+else-is_none w ↦ gone_on p given (best_stays p.kept w.if-is_none.ensures)
      | else-kept-eq-UNASKED-via-else-kept-eq-UNASKED w ↦ gone_on p given (best_more p.kept (item p given) (λ d. d (omega (arith, c.cell-kept.ensures.is, w.if-kept-eq-UNASKED.false))))
    ]

pub returns : goal.returns
returns c = best_found (ended c.loop-part.invariant c.in-None.ensures.steps)
