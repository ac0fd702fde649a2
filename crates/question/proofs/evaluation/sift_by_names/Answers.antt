-- `sift_by_names` meets its contract: the rows have lost what the names before do not have below them.
use Rattle.points.proofs.LosingRoots.{same_atom}
use Rattle.question.proofs.Turns.{name_atom, sift_start, sift_turn}
use Rattle.question.proofs.evaluation.sift_by_names.Goals as goal

pub loop-atom-init : goal.loop-atom-init
loop-atom-init c = sift_start c.requires

pub lose_under_name-requires : goal.lose_under_name-requires
lose_under_name-requires c =
    let atom = same_atom c.args.above.now c.requires.shape.room c.atoms-atom-items.ensures c.loop-atom-test.true in
    rw atom.1 (name_atom c.requires.world c.requires.shape atom.0 c.requires.from)

pub loop-atom-preserved : goal.loop-atom-preserved
loop-atom-preserved c =
    let atom = same_atom c.args.above.now c.requires.shape.room c.atoms-atom-items.ensures c.loop-atom-test.true in
    sift_turn c.requires atom.0 c.loop-atom.invariant (rw atom.1 at c.lose_under_name.ensures)
