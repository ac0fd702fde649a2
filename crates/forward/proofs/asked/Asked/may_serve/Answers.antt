-- The bit that is looked at is the role's own where that has one.
use Rattle.forward.proofs.Tested.{bit_away}
use Rattle.forward.proofs.asked.Asked.may_serve.Goals as goal

pub returns : goal.returns
returns c e = record { none = λ i s. bit_away (rw c.role.ensures at e) (c.requires.small.few i) ((c.requires.asks.each _).1 s) }
