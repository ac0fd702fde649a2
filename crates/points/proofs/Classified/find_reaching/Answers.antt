-- `find_reaching` meets its contract: the line has the roots of which an atom before reaches.
use Rattle.points.proofs.LosingRoots.{same_atom, reaching_not, reaching_more}
use Rattle.points.proofs.Classified.find_reaching.Goals.{then-atom_reaches, else-atom_reaches}
use Rattle.points.proofs.Classified.find_reaching.Goals as goal

pub loop-atom-preserved : goal.loop-atom-preserved
loop-atom-preserved c =
    let atom = same_atom c.args.outline.now c.requires.from_roots.atoms.inside c.atoms-atom-items.ensures c.loop-atom-test.true in
    elim c.if-atom_reaches.branch [
      | then-atom_reaches w ↦ rw w.reaching-is (reaching_more c.loop-atom.invariant atom.1 atom.0 c.atom_reaches.ensures w.if-atom_reaches.true (rw w.owner.ensures at w.add.ensures))
      | else-atom_reaches w ↦ rw w.reaching-is (reaching_not c.loop-atom.invariant atom.1 c.atom_reaches.ensures w.if-atom_reaches.false)
    ]
