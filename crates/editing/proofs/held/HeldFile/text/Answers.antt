-- A length past the bytes is as good as theirs.
use mathlib.Core.Path.{◌≡◌}
use lib.ListN.{length}
use borrow.Author.Rules.{rules}
use Rattle.splicing.specs.Places.{most_bytes}
use Rattle.editing.proofs.HeldFiles.{text_lent}
use Rattle.editing.proofs.held.HeldFile.text.Goals as goal

pub returns : goal.returns
returns c =
    let long : length c.args.self.now.bytes ≡ most_bytes = search rules in
    text_lent _ long _ c.min.ensures
