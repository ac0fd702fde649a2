-- A session: two releases of version 1 as files, a signature, and the bytes of their comparison.
--   text_of f               the file that f holds
--   holding text f         f with the file `text` at its start and the rest as it was
--   blank                  bytes that hold no file yet, all of them 0
--   file_on side s          the file held on a side;  with_file side f s: s with the file f there
--   names_in s, roles_in s   n and m of its releases;  axioms_on side s: the axioms of one
--   signature_in s          the signature's bytes, n + m of them;  result_in s: the result's, n
--   is_session s            a session that is not refused with 46
--   Current s              its result is that of comparing what it holds
--   IsValue s              its arrays have their lengths, and hold bytes
use Rattle.std.specs.Prelude.{◌≡◌, Bool, ◌&&◌, ◌||◌, List, ◌++◌, ℕ, ◌+◌, eqb, leb, length, take, drop, replicate}
use Rattle.el.specs.Lists.{pick}
use Rattle.el.specs.Axioms.{Axiom}
use Rattle.el.specs.Comparison.{AreBytes}
use Rattle.el.specs.NoPairs.{without}
use Rattle.release.specs.Files.{most_names_of, most_roles, version_of, names_of, roles_of, axioms_of, accepted}
use Rattle.signature.specs.Bytes.{signature_fault, signature_of}
use Rattle.rewriting.specs.Bytes.{Bytes}
use Rattle.splicing.specs.Places.{most_bytes}
use Rattle.editing.specs.declared.held.HeldFile.{HeldFile}
use Rattle.editing.specs.declared.Session.{Session}

-- how many bytes a session has for a signature and for a result: as many as a release of version 1 can need
abbrev pub signature_room : ℕ
signature_room = most_names_of 1 + most_roles

abbrev pub result_room : ℕ
result_room = most_names_of 1

unfoldable pub text_of : HeldFile → List ℕ
text_of f = take f.length f.bytes

unfoldable pub holding : List ℕ → HeldFile → HeldFile
holding text f = record { bytes = text ++ drop (length text) f.bytes; length = length text }

abbrev pub blank : HeldFile
blank = record { bytes = replicate most_bytes 0; length = 0 }

-- the first or the second of two, by a side
abbrev pub on_side : {X : Type 0} → ℕ → X → X → X
on_side side x y = pick (eqb side 1) x y

abbrev pub is_side : ℕ → Bool
is_side side = eqb side 1 || eqb side 2

unfoldable pub file_on : ℕ → Session → HeldFile
file_on side s = on_side side s.first s.second

unfoldable pub with_file : ℕ → HeldFile → Session → Session
with_file side f s = record { first = on_side side f s.first; second = on_side side s.second f; signature = s.signature; result = s.result }

unfoldable pub with_result : List ℕ → Session → Session
with_result bs s = record { first = s.first; second = s.second; signature = s.signature; result = bs }

abbrev pub names_in : Session → ℕ
names_in s = names_of (text_of s.first)

abbrev pub roles_in : Session → ℕ
roles_in s = roles_of (text_of s.first)

abbrev pub axioms_on : ℕ → Session → List Axiom
axioms_on side s = axioms_of (text_of (file_on side s))

abbrev pub signature_in : Session → List ℕ
signature_in s = take (names_in s + roles_in s) s.signature

abbrev pub result_in : Session → List ℕ
result_in s = take (names_in s) s.result

-- a length within the bytes, and an accepted release of version 1
unfoldable pub is_held : HeldFile → Bool
is_held f = leb f.length most_bytes && (accepted (text_of f) && eqb (version_of (text_of f)) 1)

-- two of these with one n and m, and a signature accepted for them
unfoldable pub is_session : Session → Bool
is_session s =
    is_held s.first
    && (is_held s.second
    && (eqb (names_in s) (names_of (text_of s.second))
    && (eqb (roles_in s) (roles_of (text_of s.second))
    && eqb (signature_fault (names_in s) (roles_in s) (signature_in s)) 0)))

-- files of version 1 have no role pairs
pub record Current (s : Session) : Type 0 where
  pub bytes : AreBytes (names_in s) (signature_of (names_in s) (roles_in s) (signature_in s)) (without (axioms_on 1 s)) (without (axioms_on 2 s)) (result_in s)

-- what every value of the type has
pub record IsValue (s : Session) : Type 0 where
  pub first_long : length s.first.bytes ≡ most_bytes
  pub first_bytes : Bytes s.first.bytes
  pub second_long : length s.second.bytes ≡ most_bytes
  pub second_bytes : Bytes s.second.bytes
