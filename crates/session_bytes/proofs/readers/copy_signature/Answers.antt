-- The signature that is held fits.
use mathlib.Core.Path.{◌≡◌}
use native.Mathlib.Omega.{arith}
use lib.ListN.{length}
use borrow.Author.Rules.{rules}
use Rattle.editing.specs.Sessions.{signature_room}
use Rattle.session_bytes.specs.Layout.{session_in}
use Rattle.session_bytes.proofs.Layouts.{copied, signature_fits}
use Rattle.session_bytes.proofs.readers.copy_signature.Goals as goal

pub returns : goal.returns
returns c =
    let long : length c.args.output.now ≡ signature_room = search rules in
    copied (rw (c.signature.ensures, c.read_session-held.ensures) at c.put_text.ensures) (omega (arith, long, signature_fits (session_in c.args.session.now)))
