-- `joining::join` meets its contract: the row is the node's own where its concept was ⊤, else a row more is written.
use native.Mathlib.Omega.{arith}
use Rattle.witness_above.proofs.Steps.{join_both}
use Rattle.witness_above.proofs.joining.join.Goals as goal

pub returns : goal.returns
returns c = join_both (omega (arith, c.requires.node, c.requires.numbers)) c.wide-old.ensures.0 c.meet.ensures c.narrow-2.ensures c.if-old-eq0.false c.put_row.ensures
