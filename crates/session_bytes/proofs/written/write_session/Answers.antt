-- One part of the session is put after the other, over as many bytes as there are.
use mathlib.Core.Path.{◌≡◌}
use lib.ListN.{length}
use borrow.Author.Rules.{rules}
use Rattle.session_bytes.specs.Layout.{session_length}
use Rattle.session_bytes.proofs.Layouts.{Arrays, writes, parts_put}
use Rattle.session_bytes.proofs.written.write_session.Goals as goal

pub returns : goal.returns
returns c =
    let arrays : Arrays c.args.session.now = record { first = search rules; second = search rules; signature = search rules; result = search rules } in
    let long : length c.args.bytes.now ≡ session_length = search rules in
    writes _ arrays long
    (parts_put _ (rw c.four_bytes.ensures at c.put_text-second_length.ensures) (rw c.four_bytes-2.ensures at c.put_text-first.ensures) c.put_text-second.ensures c.put_text-signature.ensures
    c.put_text-result.ensures c.put_text.ensures)
