-- A signature that is held is short.
use native.Mathlib.Omega.{arith}
use Rattle.exported.proofs.Lengths.{signature_length_fits}
use Rattle.exported.proofs.sessions.berrytick_session_signature.Goals as goal

pub overflow_cast-length : goal.overflow_cast-length
overflow_cast-length c = omega (arith, signature_length_fits _ c.copy_signature.ensures)
