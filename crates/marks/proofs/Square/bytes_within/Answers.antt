-- The bytes of one row that were looked at are seen in the other.
use mathlib.Core.Path.{refl}
use borrow.Author.Tests.{eqb-true}
use borrow.Author.Rules.{rules}
use Rattle.std.proofs.lemmas.Slice.Zip.{zip_turn, zip_end}
use Rattle.marks.proofs.Bytes.{lacks, seen_none, seen_more, seen_within}
use Rattle.marks.proofs.Square.bytes_within.Goals as goal

pub loop-given-init : goal.loop-given-init
loop-given-init c = seen_none lacks

pub loop-given-preserved : goal.loop-given-preserved
loop-given-preserved c =
    let turn = zip_turn _ _ _ _ _ c.next.new.self _ refl refl c.loop-given.yielded_by _ c.in-Some.is c.next.ensures.steps in
    seen_more lacks _ _ (turn.2 0) (turn.3 0) c.loop-given.invariant

pub returns : goal.returns
returns c = λ e.
    seen_within c.row.ensures c.row-2.ensures (search rules) (search rules)
    (zip_end _ _ _ _ _ c.next.new.self _ refl refl c.loop-given.yielded_by c.in-None.is c.next.ensures.steps) c.loop-given.invariant (eqb-true _ _ e)
