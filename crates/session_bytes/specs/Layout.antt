-- A session as bytes of a fixed layout: the lengths of the two files, four bytes each, low byte first; the bytes of the files, of the signature
-- and of the result.
--   session_length          how many bytes these are
--   session_bytes s         the bytes of the session s
--   session_in b            the session that the bytes b are
--   Writes s c              the session s is written as c
--   Stores step b c r       a step is stored over the lent bytes b: they are c then, and the answer is r
--   Lent promise b c r      some step keeps the promise, and is stored so
--   Copies text o q k       the output o became q, with the bytes `text` at its start, k of them, and the rest as it was
use Rattle.std.specs.Prelude.{◌≡◌, true, List, ◌++◌, ℕ, ◌+◌, length, take, drop, Result, Ok, Err}
use Rattle.release.specs.Files.{number}
use Rattle.rewriting.specs.Bytes.{number_bytes}
use Rattle.meanings.specs.declared.Compared.{Compared}
use Rattle.splicing.specs.Places.{most_bytes}
use Rattle.editing.specs.declared.held.HeldFile.{HeldFile}
use Rattle.editing.specs.declared.refusals.EditRefusal.{EditRefusal}
use Rattle.editing.specs.declared.Session.{Session}
use Rattle.editing.specs.declared.Step.{Step}
use Rattle.editing.specs.Sessions.{signature_room, result_room, is_session}

-- where the bytes of the first file start, of the second, of the signature and of the result
abbrev pub first_at : ℕ
first_at = 8

abbrev pub second_at : ℕ
second_at = first_at + most_bytes

abbrev pub signature_at : ℕ
signature_at = second_at + most_bytes

abbrev pub result_at : ℕ
result_at = signature_at + signature_room

abbrev pub session_length : ℕ
session_length = result_at + result_room

unfoldable pub session_bytes : Session → List ℕ
session_bytes s =
    number_bytes 4 s.first.length ++ (number_bytes 4 s.second.length ++ (s.first.bytes ++ (s.second.bytes ++ (s.signature ++ s.result))))

abbrev pub held_in : ℕ → ℕ → List ℕ → HeldFile
held_in length at b = record { bytes = take most_bytes (drop at b); length = number 4 b length }

unfoldable pub session_in : List ℕ → Session
session_in b = record {
  first = held_in 0 first_at b;
  second = held_in 4 second_at b;
  signature = take signature_room (drop signature_at b);
  result = take result_room (drop result_at b);
}

-- c are the bytes of s, which is read back from them where it can be edited
pub record Writes (s : Session) (c : List ℕ) : Type 0 where
  pub is : c ≡ session_bytes s
  pub back : is_session s ≡ true → session_in c ≡ s

-- a step that is not refused has a session that can be edited
pub record Storable (step : Step) : Type 0 where
  pub valid : {d : Compared} → step.answer ≡ Ok d → is_session step.session ≡ true

-- where it is not refused, the bytes are those of its session and are read as it; else they are as they were
pub record Stores (step : Step) (b c : List ℕ) (r : Result Compared EditRefusal) : Type 0 where
  pub answer : r ≡ step.answer
  pub accepted : {d : Compared} → r ≡ Ok d → c ≡ session_bytes step.session
  pub again : {d : Compared} → r ≡ Ok d → session_in c ≡ step.session
  pub refused : {k : EditRefusal} → r ≡ Err k → c ≡ b

pub record Lent (promise : Step → Type 0) (b c : List ℕ) (r : Result Compared EditRefusal) : Type 0 where
  pub step : Step
  pub says : promise step
  pub stores : Stores step b c r

pub record Copies (text o q : List ℕ) (k : ℕ) : Type 0 where
  pub length_is : k ≡ length text
  pub stands : q ≡ text ++ drop (length text) o
