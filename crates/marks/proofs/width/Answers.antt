-- Few names have few bytes.
use Rattle.marks.proofs.Squares.{width_is}
use Rattle.marks.proofs.width.Goals as goal

pub returns : goal.returns
returns c = width_is c.args.names c.requires
