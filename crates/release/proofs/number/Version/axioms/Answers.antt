-- The number of axioms stands after the names and the byte of the roles.
use Rattle.release.specs.Files.{count_of}
use Rattle.release.proofs.number.Version.axioms.Goals as goal

pub returns : goal.returns
unfolding count_of
returns c = rw (c.width.ensures, c.requires.is) at c.number.ensures
