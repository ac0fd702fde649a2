-- An accepted signature is as long as the releases have names and roles.
use Rattle.comparison.proofs.Pipeline.{signature_long}
use Rattle.comparison.proofs.Releases.lend.Goals as goal

pub invariant_of-result : goal.invariant_of-result
invariant_of-result c = record { long = signature_long _ _ _ c.requires }
