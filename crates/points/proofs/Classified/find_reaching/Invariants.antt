-- `find_reaching` meets its contract: the line has the roots of which an atom before reaches.
use Rattle.points.specs.Roots.{Reaching}
use Rattle.points.proofs.Classified.find_reaching.Given as goal

abbrev pub invariant-loop-atom : goal.invariant-loop-atom
invariant-loop-atom l = let x = l.restriction in Reaching l.self l.outline l.atom-index x.idle.now l.lost x.role.0 x.root l.reaching
