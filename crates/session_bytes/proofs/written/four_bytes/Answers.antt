-- Each byte is what is left of the number.
use mathlib.Core.Path.{ap}
use mathlib.Core.List.{List}
use Prim.Native.Nat.{ℕ}
use lib.ListN.{get_or}
use Rattle.session_bytes.proofs.Layouts.{four_bytes_are}
use Rattle.session_bytes.proofs.written.four_bytes.Goals as goal

pub returns : goal.returns
returns c =
    let byte : ℕ → List ℕ → ℕ = λ i s. get_or s i 0 in
    four_bytes_are _ _ _ _ _ (ap (byte 0) c.to_le_bytes.ensures) (ap (byte 1) c.to_le_bytes.ensures) (ap (byte 2) c.to_le_bytes.ensures) (ap (byte 3) c.to_le_bytes.ensures)
