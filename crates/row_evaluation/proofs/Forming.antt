-- Rows well formed one after the other.
use mathlib.Core.Path.{◌≡◌}
use mathlib.Core.Bool.{Bool, true, false}
use mathlib.Core.List.{List}
use Prim.Native.Nat.{ℕ, ◌+◌, ◌≤◌, ◌<◌}
use native.Mathlib.Omega.{arith}
use native.Mathlib.Decide.{ℕ_discrete}
use borrow.Author.Tests.{ltb-true}
use lib.Dec.{ltb}
use Rattle.el.specs.Signatures.{Signature}
use Rattle.el.specs.Terminologies.{RolesBelow}
use Rattle.el.proofs.Tests.{Tells, never, and_left}
use Rattle.marks.proofs.Squares.{refuted}
use Rattle.concept_rows.specs.Rows.{Rows, WellFormed}
use Rattle.concept_rows.specs.Written.{Formed}
use Rattle.release.specs.Files.{most_roles}
use Rattle.signature.specs.Bytes.{signature_of}

-- a chosen role is one of few
pub roles_few : (n m : ℕ) (g : List ℕ) → m ≤ most_roles → RolesBelow 256 (signature_of n m g)
roles_few n m g few r h = omega (arith, ltb-true r m (and_left (ltb r m) _ h))

module _ {sig : Signature} {rows : Rows} where
  pub formed_more : {i : ℕ} {b : Bool} → Formed sig rows i → Tells b (WellFormed sig i (rows i)) → b ≡ true → Formed sig rows (i + 1)
  formed_more {i} before tells e = record { at = λ j h. elim (ℕ_discrete j i) [ yes z ↦ rw z (tells.sound e) | no z ↦ before.at j (omega arith) ] }

  pub formed_missing : {i k : ℕ} {b : Bool} → i < k → Tells b (WellFormed sig i (rows i)) → b ≡ false → Tells false (Formed sig rows k)
  formed_missing {i} h tells e = never (λ all. refuted tells e (all.at i h))
