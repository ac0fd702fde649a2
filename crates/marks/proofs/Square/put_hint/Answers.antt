-- A mark in a square of hints behind the rows changes hints alone.
use Rattle.marks.proofs.Squares.{hints_kept}
use Rattle.marks.proofs.Square.put_hint.Goals as goal

pub returns-in-Some : goal.returns-in-Some
returns-in-Some c = hints_kept (c.in-Some.ensures.behind c.requires.le_k.0) c.mark.ensures.hints
