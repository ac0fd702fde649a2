-- A list of nothing has nothing at each place.
use Rattle.marks.proofs.Lists.{replicated_at}
use Rattle.marks.proofs.order.Order.new.Goals as goal

pub returns : goal.returns
returns c = replicated_at _ 1024
