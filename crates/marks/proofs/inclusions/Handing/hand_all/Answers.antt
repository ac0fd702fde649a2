-- The rows of the order, of which none is done before, and then the rest.
use Rattle.marks.proofs.Passes.{pass_both}
use Rattle.marks.proofs.Lines.{empty_zeros}
use borrow.Author.Rules.{rules}
use Rattle.marks.proofs.inclusions.Handing.hand_all.Goals as goal

pub hand_in_order-first-requires-clause-spans : goal.hand_in_order-first-requires-clause-spans
hand_in_order-first-requires-clause-spans c = (record { inside = search rules }, empty_zeros 128)

pub returns : goal.returns
returns c = pass_both (λ d r. r.done d) c.hand_in_order-first.ensures c.hand_rest-rest.ensures
