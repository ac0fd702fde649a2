-- A file that is held is short.
use native.Mathlib.Omega.{arith}
use Rattle.exported.proofs.Lengths.{file_length_fits}
use Rattle.exported.proofs.sessions.berrytick_session_file.Goals as goal

pub overflow_cast-length : goal.overflow_cast-length
overflow_cast-length c = omega (arith, file_length_fits _ _ c.copy_file.ensures)
