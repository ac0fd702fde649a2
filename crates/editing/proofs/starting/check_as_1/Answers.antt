-- Another version is refused before any later check.
use Rattle.editing.proofs.Beginning.{as_3, as_ever}
use Rattle.editing.proofs.starting.check_as_1.Goals as goal

pub returns-then-has_other_version : goal.returns-then-has_other_version
returns-then-has_other_version c = as_3 _ c.has_other_version.ensures c.if-has_other_version.true

pub returns : goal.returns
returns c = as_ever _ c.has_other_version.ensures c.if-has_other_version.false _ c.check_release.ensures
