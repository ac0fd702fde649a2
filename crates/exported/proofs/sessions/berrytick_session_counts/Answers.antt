-- A session has few names and roles, whatever it holds.
use native.Mathlib.Omega.{arith}
use Rattle.session_bytes.specs.Layout.{session_in}
use Rattle.exported.proofs.Lengths.{session_fits}
use Rattle.exported.proofs.sessions.berrytick_session_counts.Goals as goal

pub overflow_cast-counts : goal.overflow_cast-counts
overflow_cast-counts c = omega (arith, c.names.ensures, (session_fits (session_in c.args.session.now)).names)

pub overflow_cast-counts-2 : goal.overflow_cast-counts-2
overflow_cast-counts-2 c = omega (arith, c.roles.ensures, (session_fits (session_in c.args.session.now)).roles)
