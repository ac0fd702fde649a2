-- Four bytes are the number that they write.
use native.Mathlib.Omega.{arith}
use Rattle.session_bytes.proofs.Layouts.{four_is}
use Rattle.session_bytes.proofs.reading.length_at.Goals as goal

pub returns : goal.returns
returns c = four_is _ _ _ (omega (arith, c.from_le_bytes-length.ensures))
