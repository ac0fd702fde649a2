-- A signature as n + m bytes, each 0 or 1: names first, then roles.
--   signature_fault n m s     the refusal of the bytes s, or 0
--   signature_of n m s        the names and roles that s chooses
use Rattle.std.specs.Prelude.{Bool, ◌&&◌, List, ℕ, ◌+◌, eqb, ltb, leb, length, get_or}
use Rattle.el.specs.Lists.{pick, all}
use Rattle.el.specs.Signatures.{Signature}
use Rattle.release.specs.Refusals.{Numbers}
use Rattle.signature.specs.declared.SignatureRefusal.{SignatureRefusal}
use Rattle.signature.specs.declared.SignatureRefusal.TheVariants.{WrongLength, WrongByte}

abbrev pub is_bit : ℕ → Bool
is_bit b = leb b 1

-- the refusals "signature length" and "signature byte above 1"
abbrev pub wrong_length : ℕ
wrong_length = 17

abbrev pub wrong_byte : ℕ
wrong_byte = 18

abbrev pub signature_number : SignatureRefusal → ℕ
signature_number WrongLength = wrong_length
signature_number WrongByte = wrong_byte

-- a refusal as it is told: it concerns neither release
abbrev pub signature_refusal : SignatureRefusal → Numbers
signature_refusal r = record { number = signature_number r; side = 0 }

-- the first refusal whose condition holds; 0, and the signature is accepted, where neither does
unfoldable pub signature_fault : ℕ → ℕ → List ℕ → ℕ
signature_fault n m s = pick (eqb (length s) (n + m)) (pick (all is_bit s) 0 wrong_byte) wrong_length

-- "names first, then roles"
abbrev pub signature_of : ℕ → ℕ → List ℕ → Signature
signature_of n m s = record {
  has_name = λ x. ltb x n && eqb (get_or s x 0) 1;
  has_role = λ r. ltb r m && eqb (get_or s (n + r) 0) 1;
}
