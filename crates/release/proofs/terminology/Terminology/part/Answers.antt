-- A conjunct is the number that stands in the file after the byte of their count, i names further.
use mathlib.Core.Path.{◌∙◌}
use Rattle.release.specs.Tables.{part_at}
use Rattle.release.proofs.terminology.Terminology.part.Goals as goal

pub returns : goal.returns
unfolding part_at
returns c = c.number.ensures ∙ rw (c.tail.ensures, c.width.ensures, c.of-version.ensures.width)
