-- The count of conjuncts is the byte at the tail.
use mathlib.Core.Path.{◌∙◌}
use Rattle.release.specs.Tables.{count_at}
use Rattle.release.proofs.terminology.Terminology.count.Goals as goal

pub returns : goal.returns
unfolding count_at
returns c = c.from.ensures ∙ rw c.tail.ensures
