-- An accepted signature can be lent.
use Rattle.witness.proofs.showing.write_if_reported.Goals as goal

pub lend-lent-requires : goal.lend-lent-requires
lend-lent-requires c = c.requires.given.signature
