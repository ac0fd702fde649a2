-- The number of names stands at place 5.
use mathlib.Core.Path.{◌∙◌}
use Rattle.release.specs.Files.{names_of}
use Rattle.release.proofs.number.Version.names.Goals as goal

pub returns : goal.returns
unfolding names_of
returns c = c.number.ensures ∙ rw c.requires.is
