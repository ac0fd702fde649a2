-- What is found of the signature is what marks are put by.
use native.Mathlib.Omega.{arith}
use lib.ListN.{length-take}
use Rattle.layout.proofs.Findings.{found_edges}
use Rattle.comparison.proofs.Pipeline.{signature_long, names_long}
use Rattle.comparison.proofs.Releases.given.Goals as goal

pub lend-requires : goal.lend-requires
lend-requires c = c.requires.ranged.signature

pub find_edges-requires : goal.find_edges-requires
find_edges-requires c =
    let lent = c.lend.ensures in
    record { rowed = rw lent.names c.requires.ranged.first; names_in_bounds = rw lent.names c.requires.names_in_bounds; few = rw lent.roles c.args.self.few_roles }

pub slice_bounds-result-end : goal.slice_bounds-result-end
slice_bounds-result-end c = simp length-take (omega (arith, signature_long _ _ _ c.requires.ranged.signature))

pub invariant_of-result : goal.invariant_of-result
invariant_of-result c =
    let h = c.requires.ranged in
    record {
      names_in_bounds = rw c.forward_layout.ensures (names_long h);
      edges_found = rw c.forward_layout.ensures (found_edges (rw (c.lend.ensures.names, c.lend.ensures.roles, c.lend.ensures.bytes) at c.find_edges.ensures));
      first_rowed = rw c.forward_layout.ensures h.first;
      second_rowed = rw c.forward_layout.ensures h.second;
    }
