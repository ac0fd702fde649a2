-- Laws of the kinds' numbers: what the kind of a row, or of a byte, says of its number, and the other way round.
--   is_kind, is_not_kind     what a test of a name's kind says of the number
--   kind_of_number, number_of_byte     a kind by its number, and the number by the kind's byte
use mathlib.Core.Path.{◌≡◌, refl, sym, ◌∙◌}
use mathlib.Core.Bool.{Bool, true, false, true≢false, false≢true}
use mathlib.Core.Logic.{◌⊎◌, inl, inr}
use Prim.Native.Nat.{ℕ, zero, suc}
use native.Mathlib.Omega.{arith}
use borrow.Author.Tests.{eqb-true, eq-eqb, ne_eqb}
use lib.Dec.{eqb}
use Rattle.release.specs.Files.{joins, restricts}
use Rattle.release.specs.Kinds.{kind_number, kind_of_byte}
use Rattle.release.specs.declared.kinds.Kind.{Kind}
use Rattle.release.specs.declared.kinds.Kind.TheVariants.{PrimitiveConjunction, DefinedConjunction, PrimitiveRestriction, DefinedRestriction}
use Rattle.release.proofs.Faults.{no_kind}

-- the answer of a test of a kind
pub is_kind : {b : Bool} {k j : ℕ} → b ≡ eqb k j → b ≡ true → k ≡ j
is_kind {k = k} {j = j} h e = eqb-true k j (sym h ∙ e)

pub is_not_kind : {b : Bool} {k j : ℕ} → b ≡ eqb k j → b ≡ false → k ≡ j → ⊥
is_not_kind {k = k} {j = j} h e z = true≢false (sym (h ∙ eq-eqb k j z) ∙ e)

-- a kind has a number
pub some_kind : (k : Kind) {j : ℕ} → kind_number k ≡ j → j ≡ 0 → ⊥
some_kind PrimitiveConjunction e z = omega arith
some_kind DefinedConjunction e z = omega arith
some_kind PrimitiveRestriction e z = omega arith
some_kind DefinedRestriction e z = omega arith

-- the kind of a byte
pub kind_of_number : (k : Kind) → kind_of_byte (kind_number k) ≡ k
kind_of_number PrimitiveConjunction = refl
kind_of_number DefinedConjunction = refl
kind_of_number PrimitiveRestriction = refl
kind_of_number DefinedRestriction = refl

pub number_of_byte : (b : ℕ) → (joins b ≡ true) ⊎ (restricts b ≡ true) → kind_number (kind_of_byte b) ≡ b
number_of_byte zero (inl e) = absurd (false≢true e)
number_of_byte zero (inr e) = absurd (false≢true e)
number_of_byte (suc zero) e = refl
number_of_byte (suc (suc zero)) e = refl
number_of_byte (suc (suc (suc zero))) e = refl
number_of_byte (suc (suc (suc (suc zero)))) e = refl
number_of_byte (suc (suc (suc (suc (suc k))))) (inl e) = absurd (true≢false (sym e ∙ (no_kind (suc (suc (suc (suc (suc k))))) (inr (omega arith))).0))
number_of_byte (suc (suc (suc (suc (suc k))))) (inr e) = absurd (true≢false (sym e ∙ (no_kind (suc (suc (suc (suc (suc k))))) (inr (omega arith))).1))

pub joins_of_byte : (b : ℕ) → joins (kind_number (kind_of_byte b)) ≡ joins b
joins_of_byte zero = refl
joins_of_byte (suc zero) = refl
joins_of_byte (suc (suc zero)) = refl
joins_of_byte (suc (suc (suc zero))) = refl
joins_of_byte (suc (suc (suc (suc k)))) = simp (
  ne_eqb (suc (suc (suc (suc k)))) 1 (λ e. omega arith),
  ne_eqb (suc (suc (suc (suc k)))) 2 (λ e. omega arith),
  ne_eqb (suc (suc (suc (suc k)))) 3 (λ e. omega arith),
)

-- a kind that is no conjunction is a restriction
pub restricts_else : (k : Kind) → joins (kind_number k) ≡ false → restricts (kind_number k) ≡ true
restricts_else PrimitiveConjunction e = absurd (true≢false e)
restricts_else DefinedConjunction e = absurd (true≢false e)
restricts_else PrimitiveRestriction e = refl
restricts_else DefinedRestriction e = refl
