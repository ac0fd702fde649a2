-- A table of blank rows is what reading asks for.
use Rattle.release.proofs.Rows.{blank_table}
use Rattle.release.proofs.check_release.Goals as goal

pub read_release-requires : goal.read_release-requires
read_release-requires c = blank_table
