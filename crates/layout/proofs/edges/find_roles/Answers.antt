-- Where no role lies under another, what is found among the role itself is what is found among all.
use native.Mathlib.Omega.{arith}
use Rattle.layout.proofs.Findings.{found_itself}
use Rattle.layout.proofs.edges.find_roles.Goals as goal

pub returns-then-alone : goal.returns-then-alone
returns-then-alone c = found_itself (c.requires.alone c.if-alone.true) (omega arith) c.requires.small c.with-itself.ensures c.meet.ensures c.find_among.ensures
