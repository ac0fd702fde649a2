-- `Signature::empty` meets its contract: its limits are those of the definition.
use Rattle.signature.specs.Building.{empty_signature}
use Rattle.signature.proofs.Signature.empty.Goals as goal

pub returns : goal.returns
unfolding empty_signature
returns c = rw (c.min.ensures, c.min-2.ensures)
