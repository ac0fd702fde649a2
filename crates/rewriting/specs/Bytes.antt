-- A release as the bytes of a file.
--   Bytes s                  each element of s is a byte
--   number_bytes w x          the number x in w bytes, low byte first
--   axiom_bytes w a           an axiom whose names take w bytes each
--   header_of w n m k         the header of a file of version w with n names, m roles and k axioms
--   release_bytes w n m al    the file of a release with n names, m roles and the axioms al, in version w: a name takes one byte in
--                            version 1 and two in version 2
use Rattle.std.specs.Prelude.{List, [], ◌∷◌, ◌++◌, ℕ, zero, suc, ◌<◌, ◌/◌, ◌%◌, length, get_or}
use Rattle.el.specs.Concepts.{Node, everything, named}
use Rattle.el.specs.Axioms.{Axiom, Right, conjunction, restriction}
use Rattle.release.specs.Files.{mark, top_number, kind_of}

pub record Bytes (s : List ℕ) : Type 0 where
  pub each : (i : ℕ) → i < length s → get_or s i 0 < 256

unfoldable pub number_bytes : ℕ → ℕ → List ℕ
number_bytes zero x = []
number_bytes (suc w) x = (x % 256) ∷ number_bytes w (x / 256)

-- names one after the other
unfoldable pub names_bytes : ℕ → List ℕ → List ℕ
names_bytes w [] = []
names_bytes w (x ∷ xs) = number_bytes w x ++ names_bytes w xs

-- the number of a filler
abbrev pub filler_number : ℕ → Node → ℕ
filler_number w everything = top_number w
filler_number w (named x) = x

-- a right side: the number of conjuncts (one byte) and the conjuncts, or the role (one byte) and the filler
unfoldable pub tail_bytes : ℕ → Right → List ℕ
tail_bytes w (conjunction xs) = number_bytes 1 (length xs) ++ names_bytes w xs
tail_bytes w (restriction r b) = number_bytes 1 r ++ number_bytes w (filler_number w b)

-- the left name, the kind (one byte) and the right side
unfoldable pub axiom_bytes : ℕ → Axiom → List ℕ
axiom_bytes w a = number_bytes w a.left ++ (number_bytes 1 (kind_of a) ++ tail_bytes w a.right)

unfoldable pub axioms_bytes : ℕ → List Axiom → List ℕ
axioms_bytes w [] = []
axioms_bytes w (a ∷ al) = axiom_bytes w a ++ axioms_bytes w al

-- the header: the mark, the version (two bytes), the numbers of names, of roles (one byte) and of axioms
unfoldable pub header_of : ℕ → ℕ → ℕ → ℕ → List ℕ
header_of w n m k = mark ++ (number_bytes 2 w ++ (number_bytes w n ++ (number_bytes 1 m ++ number_bytes w k)))

-- the same, and the axioms
unfoldable pub release_bytes : ℕ → ℕ → ℕ → List Axiom → List ℕ
release_bytes w n m al = mark ++ (number_bytes 2 w ++ (number_bytes w n ++ (number_bytes 1 m ++ (number_bytes w (length al) ++ axioms_bytes w al))))
