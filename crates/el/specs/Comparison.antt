-- What a comparison reports of a name and of a role pair, and demand 3.
--   IsByte sig t u a b         b is the byte of the name a: 0 none or not chosen, 1 left witness, 2 right witness, 3 both
--   AreBytes n sig t u bs      bs are the bytes of the names 0 to n - 1
--   IsPairByte sig t u r s b   b is the byte of the role pair r, s: 1 where it is reported, else 0
--   ArePairBytes m sig t u bs  bs are the bytes of the pairs of roles 0 to m - 1, that of r, s at r × m + s
--   ReportsNone n m sig t u    no name is reported and no role pair
--   Demand3 n m sig t u        each name and each role pair has just one byte; equal over sig exactly when neither order
--                              reports a name or a role pair
use Rattle.std.specs.Prelude.{◌≡◌, ◌↔◌, Bool, true, false, ◌||◌, List, ℕ, ◌+◌, ◌*◌, ◌≤◌, ◌<◌, eqb, length, get_or}
use Rattle.el.specs.Axioms.{Terminology}
use Rattle.el.specs.Signatures.{Signature, LeftWitness, RightWitness, RoleWitness, EqualOver}

-- reported on the left, on the right
abbrev pub on_left : ℕ → Bool
on_left b = eqb b 1 || eqb b 3

abbrev pub on_right : ℕ → Bool
on_right b = eqb b 2 || eqb b 3

-- "A name is reported exactly when its byte is not 0: on the left with 1 or 3, on the right with 2 or 3"
abbrev pub is_reported : ℕ → Bool
is_reported b = on_left b || on_right b

pub record IsByte (sig : Signature) (t u : Terminology) (a b : ℕ) : Type 0 where
  pub outside : sig.has_name a ≡ false → b ≡ 0
  pub small : b ≤ 3
  pub left : sig.has_name a ≡ true → (on_left b ≡ true) ↔ LeftWitness sig t u a
  pub right : sig.has_name a ≡ true → (on_right b ≡ true) ↔ RightWitness sig t u a

pub record AreBytes (n : ℕ) (sig : Signature) (t u : Terminology) (bs : List ℕ) : Type 0 where
  pub long : length bs ≡ n
  pub each : (a : ℕ) → a < n → IsByte sig t u a (get_or bs a 0)

abbrev pub ReportsNoName : ℕ → Signature → Terminology → Terminology → Type 0
ReportsNoName n sig t u = (a : ℕ) → a < n → IsByte sig t u a 0

pub record IsPairByte (sig : Signature) (t u : Terminology) (r s b : ℕ) : Type 0 where
  pub small : b ≤ 1
  pub reported : (b ≡ 1) ↔ RoleWitness sig t u r s

pub record ArePairBytes (m : ℕ) (sig : Signature) (t u : Terminology) (bs : List ℕ) : Type 0 where
  pub long : length bs ≡ m * m
  pub each : (r s : ℕ) → r < m → s < m → IsPairByte sig t u r s (get_or bs (r * m + s) 0)

abbrev pub ReportsNoPair : ℕ → Signature → Terminology → Terminology → Type 0
ReportsNoPair m sig t u = (r s : ℕ) → r < m → s < m → IsPairByte sig t u r s 0

pub record ReportsNone (n m : ℕ) (sig : Signature) (t u : Terminology) : Type 0 where
  pub no_name : ReportsNoName n sig t u
  pub no_pair : ReportsNoPair m sig t u

pub record SomeByte (sig : Signature) (t u : Terminology) (a : ℕ) : Type 0 where
  pub byte : ℕ
  pub is_byte : IsByte sig t u a byte

pub record SomePairByte (sig : Signature) (t u : Terminology) (r s : ℕ) : Type 0 where
  pub byte : ℕ
  pub is_byte : IsPairByte sig t u r s byte

pub record Demand3 (n m : ℕ) (sig : Signature) (t u : Terminology) : Type 0 where
  pub some_byte : (a : ℕ) → a < n → SomeByte sig t u a
  pub one_byte : (a b c : ℕ) → IsByte sig t u a b → IsByte sig t u a c → b ≡ c
  pub some_pair_byte : (r s : ℕ) → r < m → s < m → SomePairByte sig t u r s
  pub one_pair_byte : (r s b c : ℕ) → IsPairByte sig t u r s b → IsPairByte sig t u r s c → b ≡ c
  pub equal : EqualOver sig t u ↔ (ReportsNone n m sig t u × ReportsNone n m sig u t)
