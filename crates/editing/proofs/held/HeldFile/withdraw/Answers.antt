-- The file without the axiom is written over the old bytes.
use mathlib.Core.Path.{◌≡◌}
use lib.ListN.{length}
use borrow.Author.Rules.{rules}
use Rattle.splicing.specs.Places.{most_bytes}
use Rattle.editing.proofs.HeldFiles.{withdraws_asks, withdraws}
use Rattle.editing.proofs.held.HeldFile.withdraw.Goals as goal

pub take_out-self-requires : goal.take_out-self-requires
take_out-self-requires c =
    let long : length c.args.self.now.bytes ≡ most_bytes = search rules in
    rw c.text.ensures (withdraws_asks _ long c.requires)

pub returns : goal.returns
returns c =
    let long : length c.args.self.now.bytes ≡ most_bytes = search rules in
    withdraws _ long c.requires (rw c.text.ensures at c.take_out-self.ensures)
