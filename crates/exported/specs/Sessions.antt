-- Sessions as C and Rust see them: the promises of the calls in Rattle over the session that the lent bytes are, and the numbers that stand for
-- their answers.
--   StartReturns, AddReturns, WithdrawReturns      a start and the two steps
--   CountsReturn, ByteReturns, FileReturns, SignatureReturns      the readers
use Rattle.std.specs.Prelude.{◌≡◌, List, [], ◌∷◌, ℕ, Result, Ok}
use Rattle.release.specs.Refusals.{told}
use Rattle.meanings.specs.declared.Compared.{Compared}
use Rattle.editing.specs.declared.Step.{Step}
use Rattle.editing.specs.declared.refusals.EditRefusal.{EditRefusal}
use Rattle.editing.specs.Refusals.{edit_refusal}
use Rattle.editing.specs.Starting.{Starts}
use Rattle.editing.specs.Steps.{Adding, Withdrawing}
use Rattle.editing.specs.Readers.{names_read, roles_read, byte_read, file_read, signature_read}
use Rattle.session_bytes.specs.Layout.{session_in, Lent, Copies}
use Rattle.exported.specs.Codes.{code_of, Returns}

-- a step, or a start, is stored over the lent bytes b, which are c then
pub record StepReturns (promise : Step → Type 0) (b c : List ℕ) (r : ℕ) : Type 0 where
  pub answer : Result Compared EditRefusal
  pub stored : Lent promise b c answer
  pub code : r ≡ code_of (told edit_refusal answer)

abbrev pub StartReturns : List ℕ → List ℕ → List ℕ → List ℕ → List ℕ → List ℕ → List ℕ → ℕ → Type 0
StartReturns s t g b c w v r = StepReturns (Starts s t g w v) b c r

abbrev pub AddReturns : ℕ → List ℕ → List ℕ → List ℕ → List ℕ → List ℕ → ℕ → Type 0
AddReturns side text b c w v r = StepReturns (Adding side text (session_in b) w v) b c r

abbrev pub WithdrawReturns : ℕ → ℕ → List ℕ → List ℕ → List ℕ → List ℕ → ℕ → Type 0
WithdrawReturns side x b c w v r = StepReturns (Withdrawing side x (session_in b) w v) b c r

abbrev pub CountsReturn : List ℕ → List ℕ → List ℕ → ℕ → Type 0
CountsReturn b before after r = Returns (Ok (names_read (session_in b) ∷ roles_read (session_in b) ∷ [])) before after r

abbrev pub ByteReturns : List ℕ → ℕ → ℕ → ℕ → ℕ → Type 0
ByteReturns b x before after r = Returns (Ok (byte_read (session_in b) x)) before after r

-- bytes copied: how many
pub record CopyReturns (text o q : List ℕ) (before after r : ℕ) : Type 0 where
  pub length_is : ℕ
  pub copied : Copies text o q length_is
  pub returns : Returns (Ok length_is) before after r

abbrev pub FileReturns : List ℕ → ℕ → List ℕ → List ℕ → ℕ → ℕ → ℕ → Type 0
FileReturns b side o q before after r = CopyReturns (file_read side (session_in b)) o q before after r

abbrev pub SignatureReturns : List ℕ → List ℕ → List ℕ → ℕ → ℕ → ℕ → Type 0
SignatureReturns b o q before after r = CopyReturns (signature_read (session_in b)) o q before after r
