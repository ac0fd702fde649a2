-- All rows of the array are lent, so what is said of the part is said of the array.
use Rattle.branches.proofs.Sheets.{all_lent}
use Rattle.branches.proofs.values.fill_rows.Goals as goal

pub returns : goal.returns
returns c = all_lent c.fill_part.ensures
