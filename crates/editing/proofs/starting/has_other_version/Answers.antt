-- The two tests are those of the definition.
use Rattle.editing.proofs.Beginning.{says_other, says_no_other}
use Rattle.editing.proofs.starting.has_other_version.Goals as goal

pub returns-then-version-ne0 : goal.returns-then-version-ne0
returns-then-version-ne0 c = says_other _ c.said_version-version.ensures c.if-version-ne0.true

pub returns-else-version-ne0 : goal.returns-else-version-ne0
returns-else-version-ne0 c = says_no_other _ c.said_version-version.ensures c.if-version-ne0.false
