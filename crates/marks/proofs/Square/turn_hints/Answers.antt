-- The k-th square lies behind the rows, so that turning them changes hints alone.
use mathlib.Core.Path.{sym}
use Rattle.marks.proofs.Squares.{hints_kept}
use Rattle.marks.proofs.Square.turn_hints.Goals as goal

pub turn-requires-clause-names_value : goal.turn-requires-clause-names_value
turn-requires-clause-names_value c = (sym c.in-Some.ensures.names, (c.in-Some.ensures.behind c.requires.le_k.0).after)

pub returns-in-Some : goal.returns-in-Some
returns-in-Some c = hints_kept (c.in-Some.ensures.behind c.requires.le_k.0) c.turn.ensures.hints
