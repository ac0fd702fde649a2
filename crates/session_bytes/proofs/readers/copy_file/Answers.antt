-- A file that is held fits.
use mathlib.Core.Path.{◌≡◌}
use native.Mathlib.Omega.{arith}
use lib.ListN.{length}
use borrow.Author.Rules.{rules}
use Rattle.splicing.specs.Places.{most_bytes}
use Rattle.session_bytes.specs.Layout.{session_in}
use Rattle.session_bytes.proofs.Layouts.{copied, file_fits}
use Rattle.session_bytes.proofs.readers.copy_file.Goals as goal

pub returns : goal.returns
returns c =
    let long : length c.args.output.now ≡ most_bytes = search rules in
    copied (rw (c.file.ensures, c.read_session-held.ensures) at c.put_text.ensures) (omega (arith, long, file_fits c.args.side (session_in c.args.session.now)))
