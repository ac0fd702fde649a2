-- The bytes of the row and the line that were looked at are full together.
use mathlib.Core.Path.{refl}
use borrow.Author.Tests.{eqb-true}
use borrow.Author.Rules.{rules}
use Rattle.std.proofs.lemmas.Slice.Zip.{zip_turn, zip_end}
use Rattle.marks.proofs.Bytes.{void, seen_none, seen_more, seen_full}
use Rattle.marks.proofs.Square.seems_full.Goals as goal

pub loop-had-init : goal.loop-had-init
loop-had-init c = seen_none void

pub loop-had-preserved : goal.loop-had-preserved
loop-had-preserved c =
    let turn = zip_turn _ _ _ _ _ c.next.new.self _ refl refl c.loop-had.yielded_by _ c.in-Some.is c.next.ensures.steps in
    seen_more void _ _ (turn.2 0) (turn.3 0) c.loop-had.invariant

pub returns : goal.returns
returns c = λ e.
    seen_full c.row.ensures c.requires.spans (search rules) (search rules)
    (zip_end _ _ _ _ _ c.next.new.self _ refl refl c.loop-had.yielded_by c.in-None.is c.next.ensures.steps) c.loop-had.invariant (eqb-true _ _ e)
