-- The file with the axiom is written over the old bytes.
use mathlib.Core.Path.{◌≡◌}
use native.Mathlib.Omega.{arith}
use lib.ListN.{length}
use borrow.Author.Rules.{rules}
use Rattle.splicing.specs.Places.{most_bytes}
use Rattle.editing.proofs.HeldFiles.{adds_asks, adds}
use Rattle.editing.proofs.held.HeldFile.add.Goals as goal

pub put_in-self-requires : goal.put_in-self-requires
put_in-self-requires c =
    let long : length c.args.self.now.bytes ≡ most_bytes = search rules in
    rw c.text.ensures (adds_asks _ long c.requires (record { each = λ i l. omega (arith, c.type_inv.text i) }))

pub returns : goal.returns
returns c =
    let long : length c.args.self.now.bytes ≡ most_bytes = search rules in
    adds _ long c.requires (rw c.text.ensures at c.put_in-self.ensures)
