-- The number of roles is the byte after the number of names.
use Rattle.release.specs.Files.{roles_of}
use Rattle.release.proofs.number.Version.roles.Goals as goal

pub returns : goal.returns
unfolding roles_of
returns c = rw (c.width.ensures, c.requires.is) at c.from.ensures
