-- `lose_all` meets its contract: the rows have lost what the names, and the atoms from the next one on, do not have below them.
use mathlib.Core.Path.{◌≡◌}
use mathlib.Core.List.{[], ◌∷◌, ◌++◌}
use Prim.Native.Nat.{◌-◌}
use native.Mathlib.Omega.{arith}
use lib.ListN.{length}
use Rattle.std.proofs.lemmas.List.{length_push}
use Rattle.question.proofs.Turns.{next_atom, all_atoms, root_atom, lose_start, lose_turn, lose_end}
use Rattle.question.proofs.evaluation.lose_all.Goals as goal

pub loop-atom-init : goal.loop-atom-init
loop-atom-init c =
    let z : c.args.above.now.extent.atoms - 0 ≡ c.args.above.now.extent.atoms = omega arith in rw z (lose_start c.requires)

pub lose_points-requires : goal.lose_points-requires
lose_points-requires c =
    let i = next_atom _ c.requires.shape.room _ _ _ _ c.loop-atom.yielded_by (cc) _ _ c.in-Some.is c.next.ensures.steps in
    rw i.1 (root_atom c.requires.world c.requires.shape (omega (arith, i.0)) c.requires.from)

pub loop-atom-preserved : goal.loop-atom-preserved
loop-atom-preserved c =
    let i = next_atom _ c.requires.shape.room _ _ _ _ c.loop-atom.yielded_by (cc) _ _ c.in-Some.is c.next.ensures.steps in
    let n = c.args.above.now.extent.atoms in
    let e : n - length (c.loop-atom.yielded ++ c.in-Some.atom ∷ []) ≡ n - length c.loop-atom.yielded - 1 = omega (arith, length_push c.loop-atom.yielded c.in-Some.atom) in
    rw e (lose_turn c.requires (omega (arith, i.0)) (omega arith) c.loop-atom.invariant (rw i.1 at c.lose_points.ensures))

pub returns : goal.returns
returns c = lose_end c.requires (all_atoms _ c.requires.shape.room _ _ _ _ c.loop-atom.yielded_by (cc) _ c.in-None.is c.next.ensures.steps) c.loop-atom.invariant
