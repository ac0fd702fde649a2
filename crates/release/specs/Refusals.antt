-- Refusals as callers of other languages are told them.
--   file_number r, file_refusal r     the number of a refusal of a release file, and this number with side 1
--   told f r                         the answer r, a refusal in it by its number and side
--   answer side k a                  what is told where k is the first refusal's number, or 0 and a is the value
use Rattle.std.specs.Prelude.{ℕ, zero, suc, Result, Ok, Err}
use Rattle.release.specs.declared.refusals.FileRefusal.{FileRefusal}
use Rattle.release.specs.declared.refusals.FileRefusal.TheVariants.{ShortFile, NoMark, WrongVersion, ManyNames, ManyRoles, ManyAxioms, EndOfFile, WrongKind, WrongName}
use Rattle.release.specs.declared.refusals.FileRefusal.TheVariants.{LeftNamesNotRising, WrongRole, ManyConjuncts, ConjunctsNotRising, BytesLeftOver, DefinedConjunct, PairsNotRising}

-- a refusal's number, and the side of the release or concept concerned, else 0
pub record Numbers : Type 0 where
  pub number : ℕ
  pub side : ℕ

abbrev pub file_number : FileRefusal → ℕ
file_number ShortFile = 1
file_number NoMark = 2
file_number WrongVersion = 3
file_number ManyNames = 4
file_number ManyRoles = 5
file_number ManyAxioms = 6
file_number EndOfFile = 7
file_number WrongKind = 8
file_number WrongName = 9
file_number LeftNamesNotRising = 10
file_number WrongRole = 11
file_number ManyConjuncts = 12
file_number ConjunctsNotRising = 13
file_number BytesLeftOver = 14
file_number DefinedConjunct = 15
file_number PairsNotRising = 49

abbrev pub file_refusal : FileRefusal → Numbers
file_refusal r = record { number = file_number r; side = 1 }

abbrev pub told : {A E : Type 0} → (E → Numbers) → Result A E → Result A Numbers
told f (Ok a) = Ok a
told f (Err e) = Err (f e)

abbrev pub answer : {A : Type 0} → ℕ → ℕ → A → Result A Numbers
answer side zero a = Ok a
answer side (suc k) a = Err (record { number = suc k; side = side })
