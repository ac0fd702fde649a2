-- `reach::clear_edges` meets its contract: the rows of the edges are in the memory.
use native.Mathlib.Omega.{arith}
use mathlib.Core.Path.{refl}
use Rattle.witness_above.proofs.Reaching.{edges_end, edges_inside, edges_cleared}
use Rattle.witness_above.proofs.reach.clear_edges.Goals as goal

pub overflow_add-from-2 : goal.overflow_add-from-2
overflow_add-from-2 c = let l = c.args.layout in omega (arith, edges_end l.marks l.names, edges_inside c.requires)

pub overflow_add-from-3 : goal.overflow_add-from-3
overflow_add-from-3 c = let l = c.args.layout in omega (arith, edges_end l.marks l.names, edges_inside c.requires)

pub clear_between-requires : goal.clear_between-requires
clear_between-requires c =
    let l = c.args.layout in
    (omega arith, omega (arith, edges_end l.marks l.names, edges_inside c.requires))

pub returns : goal.returns
returns c = edges_cleared refl refl c.clear_between.ensures
