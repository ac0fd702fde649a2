-- A session started from two releases and a signature.
--   start_fault s            the refusal of a release that a session starts from: that of its file, 3 for another version than 1
--   checked_as1 s            its counts, or that refusal
--   start_refusals s t g w   the conditions on starting with w work bytes, in their order, and their refusals
--   started s t g           the session of two files and a signature, all bytes past their ends 0, and no result yet
--   empty_session            the session of two releases and a signature with n = m = 0, whose files are `empty_file`
--   Starts s t g w v r      what starting promises of its answer, of the session and of the work memory
use Rattle.std.specs.Prelude.{◌≡◌, Bool, true, ◌&&◌, not, List, [], ◌∷◌, ◌++◌, ℕ, eqb, ltb, length, drop, replicate, Result, Ok, Err}
use Rattle.el.specs.Lists.{pick}
use Rattle.release.specs.Files.{mark, names_of, roles_of, fault}
use Rattle.release.specs.Readings.{counts_in}
use Rattle.release.specs.Refusals.{Numbers, told, answer}
use Rattle.release.specs.Versions.{said_version}
use Rattle.release.specs.declared.Counts.{Counts}
use Rattle.signature.specs.Bytes.{signature_fault}
use Rattle.meanings.specs.Comparing.{work_length}
use Rattle.meanings.specs.declared.Compared.{Compared}
use Rattle.editing.specs.declared.Session.{Session}
use Rattle.editing.specs.declared.Step.{Step}
use Rattle.editing.specs.declared.refusals.EditRefusal.{EditRefusal}
use Rattle.editing.specs.Refusals.{edit_refusal}
use Rattle.editing.specs.Sessions.{signature_room, result_room, holding, blank, with_result, is_session, Current}
use Rattle.editing.specs.Steps.{Refusals, refusal, first_named}

-- past 1 and 2, and of another version: 3, before any later check
unfoldable pub other_version : List ℕ → Bool
other_version s = not (eqb (said_version s) 0) && not (eqb (said_version s) 1)

unfoldable pub start_fault : List ℕ → ℕ
start_fault s = pick (other_version s) 3 (fault s)

unfoldable pub checked_as1 : List ℕ → Result Counts Numbers
checked_as1 s = answer 1 (start_fault s) (counts_in s)

-- "as by Compare without 31"
unfoldable pub start_refusals : List ℕ → List ℕ → List ℕ → ℕ → Refusals
start_refusals s t g w =
    (not (eqb (start_fault s) 0), refusal (start_fault s) 1)
    ∷ ((not (eqb (start_fault t) 0), refusal (start_fault t) 2)
    ∷ ((not (eqb (names_of s) (names_of t) && eqb (roles_of s) (roles_of t)), refusal 16 0)
    ∷ ((not (eqb (signature_fault (names_of s) (roles_of s) g) 0), refusal (signature_fault (names_of s) (roles_of s) g) 0)
    ∷ ((ltb w (work_length (names_of s)), refusal 32 0) ∷ []))))

-- the files and the signature at the start of bytes that are else 0
unfoldable pub started : List ℕ → List ℕ → List ℕ → Session
started s t g = record {
  first = holding s blank;
  second = holding t blank;
  signature = g ++ drop (length g) (replicate signature_room 0);
  result = replicate result_room 0;
}

-- two files of 8 bytes
abbrev pub empty_file : List ℕ
empty_file = mark ++ (1 ∷ (0 ∷ (0 ∷ (0 ∷ (0 ∷ [])))))

unfoldable pub empty_session : Session
empty_session = started empty_file empty_file []

abbrev pub counts_of : List ℕ → Compared
counts_of s = record { names = names_of s; roles = roles_of s }

pub record Started (s t g : List ℕ) (r : Session) : Type 0 where
  pub session : r ≡ with_result r.result (started s t g)
  pub past : drop (names_of s) r.result ≡ drop (names_of s) (replicate result_room 0)
  pub valid : is_session r ≡ true
  pub current : Current r

pub record Starts (s t g w v : List ℕ) (r : Step) : Type 0 where
  pub answer : told edit_refusal r.answer ≡ first_named (start_refusals s t g (length w)) (Ok (counts_of s))
  pub refused_session : {k : EditRefusal} → r.answer ≡ Err k → r.session ≡ empty_session
  pub refused_work : {k : EditRefusal} → r.answer ≡ Err k → v ≡ w
  pub accepted : {c : Compared} → r.answer ≡ Ok c → Started s t g r.session
  pub cleared : {c : Compared} → r.answer ≡ Ok c → v ≡ replicate (work_length (names_of s)) 0 ++ drop (work_length (names_of s)) w
