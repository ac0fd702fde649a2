-- A file of version 1 with one axiom more or one less, and what the functions that write it ask.
--   IsFile s             s is an accepted release of version 1
--   IsText n m text      the bytes `text` are one axiom over n names and m roles, and nothing more
--   most_bytes            the bytes of the longest file of version 1
--   place_of x s          the place in s before which the axioms of names below x stand
--   file_with s text      the file of the axioms of s and that of `text`;  file_without s x: of those of s but that of x
--   Copied s o           a copy of s stands at the start of the output o
--   PutsIn s o text, TakesOut s o x     what writing these over such a copy asks
use Rattle.std.specs.Prelude.{◌≡◌, true, false, List, ℕ, ◌+◌, ◌*◌, ◌≤◌, length}
use Rattle.el.specs.Axioms.{Axiom}
use Rattle.release.specs.Files.{most_names_of, most_conjuncts, header_length, version_of, names_of, roles_of, axiom_at, axioms_fault, axioms_of, fault}
use Rattle.release.specs.declared.ConceptName.{ConceptName}
use Rattle.rewriting.specs.Bytes.{Bytes, axioms_bytes, release_bytes}
use Rattle.rewriting.proofs.Parts.{At}
use Rattle.splicing.specs.Axioms.{lower, has, inserted, withdrawn}

-- the bytes of the longest file of version 1: after the header an axiom for each name, with a name, a kind, k and k conjuncts
abbrev pub most_bytes : ℕ
most_bytes = header_length 1 false + most_names_of 1 * (3 + most_conjuncts)

pub record IsFile (s : List ℕ) : Type 0 where
  pub accepted : fault s ≡ 0
  pub version : version_of s ≡ 1

-- refusals 7 to 9 and 11 to 13 byte by byte, then 14; 10 is not met by a first axiom
abbrev pub text_fault : ℕ → ℕ → List ℕ → ℕ
text_fault n m text = axioms_fault 1 n m 1 0 text 0

abbrev pub axiom_in : List ℕ → Axiom
axiom_in text = axiom_at 1 text 0

abbrev pub name_in : List ℕ → ConceptName
name_in text = record { 0 = (axiom_in text).left }

pub record IsText (n m : ℕ) (text : List ℕ) : Type 0 where
  pub bytes : Bytes text
  pub accepted : text_fault n m text ≡ 0

unfoldable pub place_of : ℕ → List ℕ → ℕ
place_of x s = 8 + length (axioms_bytes 1 (lower x (axioms_of s)))

unfoldable pub file_of : List ℕ → List Axiom → List ℕ
file_of s al = release_bytes 1 (names_of s) (roles_of s) al

abbrev pub file_with : List ℕ → List ℕ → List ℕ
file_with s text = file_of s (inserted (axiom_in text) (axioms_of s))

abbrev pub file_without : List ℕ → ℕ → List ℕ
file_without s x = file_of s (withdrawn x (axioms_of s))

-- a copy of the file stands at the start of the output, which has room for every file
pub record Copied (s o : List ℕ) : Type 0 where
  pub file : IsFile s
  pub stands : At o 0 s
  pub room : most_bytes ≤ length o

pub record PutsIn (s o text : List ℕ) : Type 0 where
  pub copied : Copied s o
  pub text_is : IsText (names_of s) (roles_of s) text
  pub free : has (axiom_in text).left (axioms_of s) ≡ false

pub record TakesOut (s o : List ℕ) (x : ℕ) : Type 0 where
  pub copied : Copied s o
  pub taken : has x (axioms_of s) ≡ true
